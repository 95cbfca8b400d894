-- Where the entries of a key are: each by the number of its section, and by its place among the items of the body, counted from 0.
use Rattle.std.specs.Prelude.{◌≡◌, ◌≢◌, ◌⊎◌, ◌==◌, ℕ, Bool, true, false, List, [], Option, Some, None, Result, Ok, Err, map, filter, flat_map, IsPermutation, IsSorted}
use Rattle.std.specs.List.{enumerate_from, last_or, list_all, list_any}
use Rattle.std.specs.Ordering.{nat_cmp, ordering_then}
use Rattle.std.specs.declared.cmp.Ordering.{Ordering}
use Rattle.std.specs.declared.vec.Vec.{Vec}
use Rattle.gitconf_text.specs.Names.{is_value_name}
use Rattle.gitconf_text.specs.Part.{Item}
use Rattle.gitconf_sources.specs.Key.{Key}
use Rattle.gitconf_sources.specs.Metadata.{Meta}
use Rattle.gitconf_state.specs.Edit.{is_entry_of}
use Rattle.gitconf_state.specs.Editors.{Editor, editor_of_body}
use Rattle.gitconf_state.specs.Edits.{items_of_numbered}
use Rattle.gitconf_state.specs.LineEnds.{file_line_end}
use Rattle.gitconf_state.specs.Lookup as state
use Rattle.gitconf_state.specs.Lookup.{Miss}
use Rattle.gitconf_state.specs.State.{SectionState, State}
use Rattle.gitconf_lookups.specs.declared.existing.Error.{Error}
use Rattle.gitconf_lookups.specs.declared.existing.Error.TheVariants.{SectionMissing, SubSectionMissing, KeyMissing, ValueName, Memory}
use Rattle.gitconf_lookups.specs.Lookups.{miss_at, sections_named}
use Rattle.gitconf_lookups.specs.Walks.{passing}
pub use Rattle.gitconf_views.specs.ItemMeanings.{item_meaning, meaning_at}

-- the places of a key's entries among items
abbrev pub places_among : (key : List ℕ) → List Item → List ℕ
places_among key items = map (λ p. p.0) (filter (λ p. is_entry_of key p.1) (enumerate_from 0 items))

-- the places of a key's entries in a section, each with the number of the section
abbrev pub value_places : (key : List ℕ) → SectionState → List (ℕ × ℕ)
value_places key s = map (λ place. (s.number, place)) (places_among key s.items)

-- the places of a key's entries in the sections that pass, in file order
abbrev pub all_value_places : (key : List ℕ) → (keeps : Meta → Bool) → List SectionState → List (ℕ × ℕ)
all_value_places key keeps sections = flat_map (value_places key) (passing keeps sections)

-- All places are returned. A refusal comes only if there are some.
abbrev pub AreAll : {Z E : Type 0} → Result (Vec (ℕ × ℕ) Z) E → List (ℕ × ℕ) → Type 0
AreAll (Ok found) places = found.items ≡ places
AreAll (Err refusal) places = places ≢ []

-- the last place of a key's entries in the sections that pass
abbrev pub last_value_place : (key : List ℕ) → (keeps : Meta → Bool) → List SectionState → Option (ℕ × ℕ)
last_value_place key keeps sections = last_or None (all_value_places key keeps sections)

-- the place of a value editor: that of the last entry of the key, with `=` or without it, in the passing sections
abbrev pub value_place : Key → (keeps : Meta → Bool) → State → Option (ℕ × ℕ)
value_place key keeps state = last_value_place key.name keeps (sections_named key.section key.subsection state)

-- The refusal if there is no place: first a missing section, then an invalid value name, then a missing entry.
abbrev pub refusal_of : Miss → (is_name : Bool) → Error
refusal_of state.SectionMissing is_name = SectionMissing
refusal_of state.SubSectionMissing is_name = SubSectionMissing
refusal_of state.KeyMissing true = KeyMissing
refusal_of state.KeyMissing false = ValueName 6

-- The key's name is invalid, or there is nothing; the refusal says which.
abbrev pub IsRefused : Key → State → (nothing : Type 0) → Error → Type 0
IsRefused key state nothing refusal =
    ((is_value_name key.name ≡ false) ⊎ nothing) × (refusal ≡ refusal_of (miss_at key state) (is_value_name key.name))

-- The place was found, and the key's name is valid; or the refusal says why not.
abbrev pub IsPlace : Key → State → Option (ℕ × ℕ) → Result (ℕ × ℕ) Error → Type 0
IsPlace key state place (Ok found) = (is_value_name key.name ≡ true) × (place ≡ Some found)
IsPlace key state place (Err refusal) = IsRefused key state (place ≡ None) refusal

-- the result is the place of a value editor, or why there is none
abbrev pub IsValuePlace : Key → (keeps : Meta → Bool) → State → Result (ℕ × ℕ) Error → Type 0
IsValuePlace key keeps state result = IsPlace key state (value_place key keeps state) result

-- the order of an editor of several values: by the number of the section, then by the place in it
abbrev pub by_number : ℕ × ℕ → ℕ × ℕ → Ordering
by_number p q = ordering_then (nat_cmp p.0 q.0) (nat_cmp p.1 q.1)

-- the same places, in the order of an editor of several values
pub record AreInOrder (places ordered : List (ℕ × ℕ)) : Type 0 where
  pub same : IsPermutation places ordered
  pub ascend : IsSorted by_number ordered

-- all places of an editor of several values, in file order: those of the entries of the key, with `=` or without it, in the
-- passing sections
abbrev pub key_places : Key → (keeps : Meta → Bool) → State → List (ℕ × ℕ)
key_places key keeps state = all_value_places key.name keeps (sections_named key.section key.subsection state)

-- The places are returned in order, there are some, and the key's name is valid; or the refusal says why not. Out of memory comes only if
-- there are some.
abbrev pub ArePlaces : {Z : Type 0} → Key → State → List (ℕ × ℕ) → Result (Vec (ℕ × ℕ) Z) Error → Type 0
ArePlaces key state places (Ok found) = (is_value_name key.name ≡ true) × (places ≢ []) × AreInOrder places found.items
ArePlaces key state places (Err Memory) = (is_value_name key.name ≡ true) × (places ≢ [])
ArePlaces key state places (Err refusal) = IsRefused key state (places ≡ []) refusal

-- the results are the places of an editor of several values, or why there are none
abbrev pub AreValuePlaces : {Z : Type 0} → Key → (keeps : Meta → Bool) → State → Result (Vec (ℕ × ℕ) Z) Error → Type 0
AreValuePlaces key keeps state result = ArePlaces key state (key_places key keeps state) result

-- the section of each place exists
abbrev pub all_stand : List (ℕ × ℕ) → State → Bool
all_stand places state = list_all (λ place. list_any (λ s. s.number == place.0) state.sections) places

-- the editor of the section of a number, as it is now: its blanks, and the file's line ending
abbrev pub editor_of_numbered : (number : ℕ) → State → Editor
editor_of_numbered number state = editor_of_body (file_line_end state) (items_of_numbered number state)
