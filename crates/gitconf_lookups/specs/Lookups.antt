-- What lookups of a store return, by the three names of a key.
use Rattle.std.specs.Prelude.{◌≡◌, ◌≢◌, ℕ, Bool, List, [], ◌∷◌, Option, None, Result, Err, map, filter, flat_map}
use Rattle.std.specs.List.{last_or, filter_map}
use Rattle.std.specs.Option.{option_map}
use Rattle.std.specs.declared.vec.Vec.{Vec}
use Rattle.bstr.specs.declared.bstring.BString.{BString}
use Rattle.bstr.specs.Owned.{bstring_bytes}
use Rattle.gitconf_text.specs.Value.{plain}
use Rattle.gitconf_sources.specs.Key.{Key}
use Rattle.gitconf_sources.specs.Metadata.{Meta}
use Rattle.gitconf_body.specs.Bodies.{IsFoundImplicit}
use Rattle.gitconf_state.specs.Lookup.{Miss, all_values, deciding, entries_of_key, is_named, last_value, listed, listing, meaning, miss_of, said_passing}
use Rattle.gitconf_state.specs.State.{SectionState, State}
use Rattle.gitconf_lookups.specs.declared.existing.Error.{Error}
use Rattle.gitconf_views.specs.declared.section.SectionRef.{SectionRef}
use Rattle.gitconf_lookups.specs.Misses.{IsExisting}
use Rattle.gitconf_views.specs.Views.{shown}
pub use Rattle.gitconf_sources.specs.Found.{IsFound, if_any}

-- the key of three names
abbrev pub key_at : (section : List ℕ) → (subsection : Option (List ℕ)) → (name : List ℕ) → Key
key_at section subsection name = record { section = section; subsection = subsection; name = name }

-- the last value of a key: the meaning of its last entry in the last passing section in which that entry has a value
abbrev pub value_at : Key → (keeps : Meta → Bool) → State → Option (List ℕ)
value_at key keeps state = last_value key.section key.subsection key.name keeps (listed state)

-- what the last entry of a key means in the last passing section that has an entry of it; nothing for an entry without a value
abbrev pub implicit_at : Key → (keeps : Meta → Bool) → State → Option (Option (List ℕ))
implicit_at key keeps state =
    option_map (λ e. option_map plain e.raw) (last_or None (filter_map (λ s. last_or None s.entries) (said_passing key.section key.subsection key.name keeps (listed state))))

-- all values of a key in the passing sections, in order; an entry without a value counts as empty
abbrev pub values_at : Key → (keeps : Meta → Bool) → State → List (List ℕ)
values_at key keeps state = all_values key.section key.subsection key.name keeps (listed state)

-- what is missing, if the lookup finds nothing
abbrev pub miss_at : Key → State → Miss
miss_at key state = miss_of key.section key.subsection (listed state)

-- the sections of a name and subsection, in file order
abbrev pub sections_named : (name : List ℕ) → (subsection : Option (List ℕ)) → State → List SectionState
sections_named name subsection state = filter (λ s. is_named name subsection (listing s)) state.sections

-- the sections of a key's name and subsection whose metadata passes, in file order
abbrev pub sections_passing : Key → (keeps : Meta → Bool) → State → List SectionState
sections_passing key keeps state = filter (λ s. keeps s.meta) (sections_named key.section key.subsection state)

-- the last value of a key, with its section
abbrev pub value_in : Key → (keeps : Meta → Bool) → State → Option (List ℕ × SectionState)
value_in key keeps state = last_or None (filter_map (λ s. option_map (λ raw. (plain raw, s)) (deciding (entries_of_key key.name (listing s)))) (sections_passing key keeps state))

-- all values of a key, each with its section
abbrev pub values_in : Key → (keeps : Meta → Bool) → State → List (List ℕ × SectionState)
values_in key keeps state = flat_map (λ s. map (λ e. (meaning e, s)) (entries_of_key key.name (listing s))) (sections_passing key keeps state)

-- a value with its section
abbrev pub shown_with : BString × SectionRef → List ℕ × SectionState
shown_with found = (bstring_bytes found.0, shown found.1)

-- the texts of a list
abbrev pub texts_of : {Z : Type 0} → Vec BString Z → List (List ℕ)
texts_of texts = map bstring_bytes texts.items

-- the result is the last value of the key, if there is one
abbrev pub IsString : {E : Type 0} → Key → (keeps : Meta → Bool) → State → Result (Option BString) E → Type 0
IsString key keeps state result = IsFound bstring_bytes result (value_at key keeps state)

-- the results are all values of the key, if there are some
abbrev pub AreStrings : {Z E : Type 0} → Key → (keeps : Meta → Bool) → State → Result (Option (Vec BString Z)) E → Type 0
AreStrings key keeps state result = IsFound texts_of result (if_any (values_at key keeps state))

-- the result is what the key's last entry means, if there is one
abbrev pub IsImplicit : {E : Type 0} → Key → (keeps : Meta → Bool) → State → Result (Option (Option BString)) E → Type 0
IsImplicit key keeps state result = IsFoundImplicit result (implicit_at key keeps state)

-- the result is the last value of the key, or what is missing
abbrev pub IsRawValue : Key → (keeps : Meta → Bool) → State → Result BString Error → Type 0
IsRawValue key keeps state result = IsExisting bstring_bytes result (value_at key keeps state) (miss_at key state)

-- the result is the last value of the key with its section, or what is missing
abbrev pub IsRawValueWithSection : Key → (keeps : Meta → Bool) → State → Result (BString × SectionRef) Error → Type 0
IsRawValueWithSection key keeps state result = IsExisting shown_with result (value_in key keeps state) (miss_at key state)

-- the results are all values of the key, one or more, or what is missing
abbrev pub AreRawValues : {Z : Type 0} → Key → (keeps : Meta → Bool) → State → Result (Vec BString Z) Error → Type 0
AreRawValues key keeps state result = IsExisting texts_of result (if_any (values_at key keeps state)) (miss_at key state)

-- the results are all values of the key, each with its section, one or more, or what is missing
abbrev pub AreRawValuesWithSections : {Z : Type 0} → Key → (keeps : Meta → Bool) → State → Result (Vec (BString × SectionRef) Z) Error → Type 0
AreRawValuesWithSections {Z = Z} key keeps state result =
    IsExisting (λ (found : Vec (BString × SectionRef) Z). map shown_with found.items) result (if_any (values_in key keeps state)) (miss_at key state)
