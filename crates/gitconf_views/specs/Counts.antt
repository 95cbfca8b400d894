-- What is counted of a state.
use Rattle.std.specs.Prelude.{Bool, true, false, List, [], ◌∷◌, flat_map}
use Rattle.std.specs.List.{list_all}
use Rattle.gitconf_text.specs.Part as parts
use Rattle.gitconf_text.specs.Document.{DocumentEntry}
use Rattle.gitconf_state.specs.State.{SectionState, entries_of}

-- the body has no items
abbrev pub is_empty_body : List parts.Item → Bool
is_empty_body [] = true
is_empty_body (i ∷ items) = false

-- all bodies are empty
abbrev pub are_void : List SectionState → Bool
are_void sections = list_all (λ s. is_empty_body s.items) sections

-- the entries of all sections, in order
abbrev pub section_entries : List SectionState → List DocumentEntry
section_entries sections = flat_map (λ s. entries_of s.items) sections
