-- Which section a lookup by name and subsection takes, and what it returns.
use Rattle.std.specs.Prelude.{◌≡◌, ℕ, Bool, true, false, List, Option, Some, None, Result, Ok, Err}
use Rattle.std.specs.List.{last_or, list_any}
use Rattle.std.specs.Option.{option_map}
use Rattle.gitconf_text.specs.SectionKeys.{SectionKey}
use Rattle.gitconf_sources.specs.Metadata.{Meta}
use Rattle.gitconf_state.specs.Lookup.{is_named, listed, miss_of}
use Rattle.gitconf_state.specs.State.{SectionState, State}
use Rattle.gitconf_lookups.specs.declared.existing.Error.{Error}
use Rattle.gitconf_lookups.specs.declared.existing.Error.TheVariants.{KeyMissing}
use Rattle.gitconf_views.specs.declared.section.SectionRef.{SectionRef}
use Rattle.gitconf_lookups.specs.Lookups.{sections_named}
use Rattle.gitconf_lookups.specs.Misses.{missing}
use Rattle.gitconf_views.specs.Views.{shown}
use Rattle.gitconf_lookups.specs.Walks.{passing}

-- the last section of the name and subsection whose metadata passes
abbrev pub picked : (name : List ℕ) → (subsection : Option (List ℕ)) → (keeps : Meta → Bool) → State → Option SectionState
picked name subsection keeps state = last_or None (passing keeps (sections_named name subsection state))

-- there is a section of the name and subsection
abbrev pub HasSection : (name : List ℕ) → (subsection : Option (List ℕ)) → State → Type 0
HasSection name subsection state = list_any (is_named name subsection) (listed state) ≡ true

-- there is no section of the name and subsection, and the refusal says what is missing
abbrev pub IsMissing : (name : List ℕ) → (subsection : Option (List ℕ)) → State → Error → Type 0
IsMissing name subsection state refusal = (list_any (is_named name subsection) (listed state) ≡ false) × (refusal ≡ missing (miss_of name subsection (listed state)))

-- the last section of the name and subsection, or what is missing
abbrev pub IsSection : (name : List ℕ) → (subsection : Option (List ℕ)) → State → Result SectionRef Error → Type 0
IsSection name subsection state (Ok found) = picked name subsection (λ _. true) state ≡ Some (shown found)
IsSection name subsection state (Err refusal) = IsMissing name subsection state refusal

-- the last of some sections that passes, nothing if none passes, or what is missing in the whole state
abbrev pub IsPassingSection : (name : List ℕ) → (subsection : Option (List ℕ)) → (whole : State) → (keeps : Meta → Bool) → (some : State) → Result (Option SectionRef) Error → Type 0
IsPassingSection name subsection whole keeps some (Ok found) = HasSection name subsection whole × (option_map shown found ≡ picked name subsection keeps some)
IsPassingSection name subsection whole keeps some (Err refusal) = IsMissing name subsection whole refusal

-- the same by a section's key; refusal 9 for a text that is not a key
abbrev pub IsSectionOfKey : Option SectionKey → State → Result SectionRef Error → Type 0
IsSectionOfKey None state result = result ≡ Err KeyMissing
IsSectionOfKey (Some key) state result = IsSection key.section key.subsection state result

-- the same with a filter; refusal 9 for a text that is not a key
abbrev pub IsPassingSectionOfKey : Option SectionKey → (whole : State) → (keeps : Meta → Bool) → (some : State) → Result (Option SectionRef) Error → Type 0
IsPassingSectionOfKey None whole keeps some result = result ≡ Err KeyMissing
IsPassingSectionOfKey (Some key) whole keeps some result = IsPassingSection key.section key.subsection whole keeps some result
