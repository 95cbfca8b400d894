-- The values of a key in the document of a text: what lookups find in a file that is loaded from it.
use Rattle.std.specs.Prelude.{ℕ, true, List, Option, map}
use Rattle.std.specs.Option.{option_and_then}
use Rattle.gitconf_sources.specs.Found.{if_any}
use Rattle.gitconf_sources.specs.Key.{Key}
use Rattle.gitconf_sources.specs.Metadata.{api_meta}
use Rattle.gitconf_text.specs.Document.{DocumentSection, Document}
use Rattle.gitconf_state.specs.Lookup.{Listed, last_value, all_values}

-- a section of a text as lookups see it, which ask neither for its number nor for where it comes from
abbrev pub listed_section : DocumentSection → Listed
listed_section s = record { number = 0; meta = api_meta; document = s }

-- the last value of a key in a document
abbrev pub value_of_key : Key → Document → Option (List ℕ)
value_of_key key d = last_value key.section key.subsection key.name (λ _. true) (map listed_section d.sections)

-- all values of a key in a document, in order
abbrev pub values_of_key : Key → Document → List (List ℕ)
values_of_key key d = all_values key.section key.subsection key.name (λ _. true) (map listed_section d.sections)

-- the last value of what may be a key
abbrev pub value_of : Option Key → Document → Option (List ℕ)
value_of key d = option_and_then (λ k. value_of_key k d) key

-- all values of what may be a key, if there are some
abbrev pub values_of : Option Key → Document → Option (List (List ℕ))
values_of key d = option_and_then (λ k. if_any (values_of_key k d)) key
