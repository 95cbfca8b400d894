-- The entries that lookups of a store find, each with its section.
use Rattle.std.specs.Prelude.{◌≡◌, ◌≢◌, ℕ, Bool, true, List, [], Option, Some, None, is_some, Result, Ok, Err, map, filter, flat_map, if◌then◌else◌}
use Rattle.std.specs.List.{last_or, filter_map}
use Rattle.std.specs.Option.{option_map}
use Rattle.std.specs.declared.vec.Vec.{Vec}
use Rattle.gitconf_text.specs.Document.{DocumentEntry, document_entry}
use Rattle.gitconf_sources.specs.Metadata.{Meta}
use Rattle.gitconf_items.specs.Items.{entry_of}
use Rattle.gitconf_state.specs.Lookup.{listing, entries_of_key}
use Rattle.gitconf_state.specs.State.{SectionState}
use Rattle.gitconf_lookups.specs.declared.found.Found.{Found}
use Rattle.gitconf_lookups.specs.declared.found.Deciding.{Deciding}
use Rattle.gitconf_lookups.specs.declared.found.Deciding.TheVariants as deciding
use Rattle.gitconf_views.specs.Views.{shown}

-- a section, and an entry of it
abbrev pub Place : Type 0
Place = SectionState × DocumentEntry

-- the place that was found
abbrev pub place_of : Found → Place
place_of f = (shown f.section, document_entry (entry_of f.section.buffer.now f.entry.now))

-- an entry that is the last one of the key in its section decides there
abbrev pub decides : Deciding → DocumentEntry → Bool
decides deciding.Entry e = true
decides deciding.Value e = is_some e.raw

-- the last of the entries, if it decides
abbrev pub deciding_of : Deciding → List DocumentEntry → Option DocumentEntry
deciding_of what entries = elim (last_or None entries) [ None ↦ None | Some e ↦ if decides what e then Some e else None ]

-- the entry that decides in a section
abbrev pub deciding_entry : Deciding → (key : List ℕ) → SectionState → Option DocumentEntry
deciding_entry what key s = deciding_of what (entries_of_key key (listing s))

-- the section with the entry that decides in it
abbrev pub deciding_place : Deciding → (key : List ℕ) → SectionState → Option Place
deciding_place what key s = option_map (λ e. (s, e)) (deciding_entry what key s)

-- the last place that decides in one of the sections whose metadata passes
abbrev pub last_place : Deciding → (key : List ℕ) → (keeps : Meta → Bool) → List SectionState → Option Place
last_place what key keeps sections = last_or None (filter_map (deciding_place what key) (filter (λ s. keeps s.meta) sections))

-- the entries of a key in a section, each with the section
abbrev pub places_in : (key : List ℕ) → SectionState → List Place
places_in key s = map (λ e. (s, e)) (entries_of_key key (listing s))

-- the entries of a key in all sections whose metadata passes, in order
abbrev pub all_places : (key : List ℕ) → (keeps : Meta → Bool) → List SectionState → List Place
all_places key keeps sections = flat_map (places_in key) (filter (λ s. keeps s.meta) sections)

-- All places are found. A refusal comes only if there are some.
abbrev pub AreFound : {Z E : Type 0} → Result (Vec Found Z) E → List Place → Type 0
AreFound (Ok found) places = map place_of found.items ≡ places
AreFound (Err refusal) places = places ≢ []
