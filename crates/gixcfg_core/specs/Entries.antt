-- The entries of a section, as they are found and as they are printed.
-- Source: the manual page of `git-config`, `get`, `list` and their options.
use Rattle.std.specs.Prelude.{◌==◌, ℕ, Bool, true, List, [], ◌∷◌, ◌++◌, map, filter, flat_map, Option, Some, None, if◌then◌else◌}
use Rattle.std.specs.List.{list_any}
use Rattle.std.specs.Option.{option_map}
use Rattle.std.specs.Str.{bytes_eq}
use Rattle.bstr.specs.Owned.{bstring_bytes}
use Rattle.gitconf_text.specs.Bytes.{fold}
use Rattle.gitconf_text.specs.Document.{DocumentEntry}
use Rattle.gitconf_text.specs.Header.{name_of, subsection_of}
use Rattle.gitconf_text.specs.Names.{is_same_name}
use Rattle.gitconf_text.specs.Value.{plain}
use Rattle.gitconf_sources.specs.Key.{Key}
use Rattle.gitconf_state.specs.Lookup.{is_named, listing}
use Rattle.gitconf_state.specs.State.{SectionState, entries_of}
use Rattle.gixcfg_core.specs.CStrings.{c_string}
use Rattle.gixcfg_core.specs.declared.entries.Found.{Found}
use Rattle.gixcfg_core.specs.declared.lines.Line.{Line}

-- the names of a section, each with a dot behind it: its own in lower case, and the subsection if there is one
abbrev pub section_names : (name : List ℕ) (subsection : Option (List ℕ)) → List ℕ
section_names name None = fold name ++ 46 ∷ []
section_names name (Some subsection) = fold name ++ 46 ∷ (subsection ++ 46 ∷ [])

-- a name has a dot in it, as that of `[a.b "c"]`
abbrev pub has_dot : (name : List ℕ) → Bool
has_dot name = list_any (λ b. b == 46) name

-- The entries of a section are listed under the names of a key: the section has them; or its name has a dot, and with all dots they look alike.
abbrev pub is_listed_under : Key → SectionState → Bool
is_listed_under key s =
    if has_dot (name_of s.header) then bytes_eq (section_names (name_of s.header) (subsection_of s.header)) (section_names key.section key.subsection)
    else is_named key.section key.subsection (listing s)

-- the names of an entry, with dots between them
abbrev pub key_text : (section : List ℕ) (subsection : Option (List ℕ)) (name : List ℕ) → List ℕ
key_text section subsection name = section_names section subsection ++ fold name

-- a value as it is printed after the names, or alone: up to its first byte 0; nothing if there is none, or if values aren't printed
abbrev pub value_part : Line → Option (List ℕ) → List ℕ
value_part line None = []
value_part line (Some value) = if line.has_value then (if line.has_names then line.between ∷ c_string value else c_string value) else []

-- names, where they are printed: up to their first byte 0
abbrev pub names_part : Line → List ℕ → List ℕ
names_part line names = if line.has_names then c_string names else []

-- the line of an entry: what is printed before it, its names, its value, and what ends it
abbrev pub line_of : Line → (before names : List ℕ) → (value : Option (List ℕ)) → List ℕ
line_of line before names value = before ++ (names_part line names ++ (value_part line value ++ line.end ∷ []))

-- the line of an entry of a section
abbrev pub entry_line : Line → (before : List ℕ) → SectionState → DocumentEntry → List ℕ
entry_line line before s e = line_of line before (key_text (name_of s.header) (subsection_of s.header) e.name) (option_map plain e.raw)

-- the lines of a section's entries, in order
abbrev pub section_lines : Line → (before : List ℕ) → SectionState → List ℕ
section_lines line before s = flat_map (entry_line line before s) (entries_of s.items)

-- an entry that is found: what is printed before it, its names, and what its value means, if it has one
pub record PlainFound : Type 0 where
  pub before : List ℕ
  pub names : List ℕ
  pub value : Option (List ℕ)

-- an entry that the program found, as plain values
abbrev pub plain_found : Found → PlainFound
plain_found f = record { before = f.before.items; names = f.names.items; value = option_map bstring_bytes f.value }

-- the entry has the name that is sought, if one is
abbrev pub is_sought : (wanted : Option (List ℕ)) → DocumentEntry → Bool
is_sought None e = true
is_sought (Some name) e = is_same_name name e.name

-- what is found of an entry of a section, with this before it and under this subsection
abbrev pub found_of : (before : List ℕ) (subsection : Option (List ℕ)) → SectionState → DocumentEntry → PlainFound
found_of before subsection s e = record { before = before; names = key_text (name_of s.header) subsection e.name; value = option_map plain e.raw }

-- the entries of a section that are sought, in order
abbrev pub found_in : (before : List ℕ) (subsection wanted : Option (List ℕ)) → SectionState → List PlainFound
found_in before subsection wanted s = map (found_of before subsection s) (filter (is_sought wanted) (entries_of s.items))

-- what the entries of a name mean, in order, nothing for one without `=`
abbrev pub values_of_name : (name : List ℕ) → SectionState → List (Option (List ℕ))
values_of_name name s = map (λ e. option_map plain e.raw) (filter (is_sought (Some name)) (entries_of s.items))
