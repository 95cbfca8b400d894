-- What lookups find: selections from the plain list of sections, each with its number, where it comes from, and its document.
-- Source: the git-config manual; gix-config.
use Rattle.std.specs.Prelude.{ℕ, Bool, not, List, [], ◌∷◌, ◌&&◌, map, filter, flat_map, Option, Some, None, if◌then◌else◌}
use Rattle.std.specs.Option.{option_eq, option_map}
use Rattle.std.specs.List.{last_or, filter_map, list_any}
use Rattle.std.specs.Str.{bytes_eq}
use Rattle.gitconf_text.specs.Names.{is_same_name}
use Rattle.gitconf_text.specs.Value.{plain}
use Rattle.gitconf_text.specs.Document.{DocumentEntry, DocumentSection}
use Rattle.gitconf_sources.specs.Metadata.{Meta}
use Rattle.gitconf_state.specs.State.{SectionState, State, section_document}

-- a section as lookups see it: its number, where it comes from, and its document
pub record Listed : Type 0 where
  pub number : ℕ
  pub meta : Meta
  pub document : DocumentSection

-- a section as lookups see it
abbrev pub listing : SectionState → Listed
listing s = record { number = s.number; meta = s.meta; document = section_document s }

-- the sections of a state, in file order
abbrev pub listed : State → List Listed
listed state = map listing state.sections

-- the section has the name, without ASCII case
abbrev pub has_name : (name : List ℕ) → Listed → Bool
has_name name s = is_same_name name s.document.name

-- the section has the name, and exactly this subsection
abbrev pub is_named : (name : List ℕ) → (subsection : Option (List ℕ)) → Listed → Bool
is_named name subsection s = has_name name s && option_eq bytes_eq s.document.subsection subsection

-- the sections of a name and subsection, in file order
abbrev pub named : (name : List ℕ) → (subsection : Option (List ℕ)) → List Listed → List Listed
named name subsection sections = filter (is_named name subsection) sections

-- the entries of a key in a section, in order
abbrev pub entries_of_key : (key : List ℕ) → Listed → List DocumentEntry
entries_of_key key s = filter (λ e. is_same_name key e.name) s.document.entries

-- what a section says of a key: its entries of the key, one or more, with its number and where it comes from
pub record Said : Type 0 where
  pub number : ℕ
  pub meta : Meta
  pub entries : List DocumentEntry

-- what a section says of a key, if it has an entry of it
abbrev pub said_of : (number : ℕ) → Meta → List DocumentEntry → List Said
said_of number meta [] = []
said_of number meta (e ∷ entries) = (record { number = number; meta = meta; entries = e ∷ entries }) ∷ []

-- what a section says of a key: one element with its entries, or none
abbrev pub said_by : (key : List ℕ) → Listed → List Said
said_by key s = said_of s.number s.meta (entries_of_key key s)

-- what the sections of a name and subsection say of a key, in file order: lookups of a key depend on nothing else
abbrev pub said : (name : List ℕ) → (subsection : Option (List ℕ)) → (key : List ℕ) → List Listed → List Said
said name subsection key sections = flat_map (said_by key) (named name subsection sections)

-- what those of them say whose metadata passes
abbrev pub said_passing : (name : List ℕ) → (subsection : Option (List ℕ)) → (key : List ℕ) → (keeps : Meta → Bool) → List Listed → List Said
said_passing name subsection key keeps sections = filter (λ s. keeps s.meta) (said name subsection key sections)

-- the raw text that decides among the entries of a key: that of the last entry, if it has one
abbrev pub deciding : List DocumentEntry → Option (List ℕ)
deciding entries = elim (last_or None entries) [ None ↦ None | Some e ↦ e.raw ]

-- the value that a lookup finds: the meaning of the raw text that decides in the last passing section that has such a text
abbrev pub last_value : (name : List ℕ) → (subsection : Option (List ℕ)) → (key : List ℕ) → (keeps : Meta → Bool) → List Listed → Option (List ℕ)
last_value name subsection key keeps sections = option_map plain (last_or None (filter_map (λ s. deciding s.entries) (said_passing name subsection key keeps sections)))

-- what an entry means; without `=` it counts as empty
abbrev pub meaning : DocumentEntry → List ℕ
meaning e = elim e.raw [ None ↦ [] | Some raw ↦ plain raw ]

-- the meanings of all entries of the key in the passing sections, in order
abbrev pub all_values : (name : List ℕ) → (subsection : Option (List ℕ)) → (key : List ℕ) → (keeps : Meta → Bool) → List Listed → List (List ℕ)
all_values name subsection key keeps sections = map meaning (flat_map (λ s. s.entries) (said_passing name subsection key keeps sections))

-- what is missing: no section has the name, or none of these has the subsection, or these have no value of the key
pub data Miss : Type 0 where
  SectionMissing : Miss
  SubSectionMissing : Miss
  KeyMissing : Miss

-- what is missing, where a lookup by these names finds nothing
abbrev pub miss_of : (name : List ℕ) → (subsection : Option (List ℕ)) → List Listed → Miss
miss_of name subsection sections =
    if not (list_any (has_name name) sections) then SectionMissing
    else if not (list_any (is_named name subsection) sections) then SubSectionMissing
    else KeyMissing
