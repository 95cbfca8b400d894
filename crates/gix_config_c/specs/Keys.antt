-- The names of values and sections that a program gives.
use Rattle.std.specs.Prelude.{ℕ, ◌&&◌, if◌then◌else◌, List, Option, Some, None, is_some, position}
use Rattle.std.specs.Str.{is_utf8}
use Rattle.gitconf_sources.specs.Key as base
use Rattle.gitconf_sources.specs.Key.{parsed_key}
use Rattle.gitconf_text.specs.SectionKeys.{is_dot}
use Rattle.gitconf_text.specs.SectionKeys as sections
use Rattle.gix_config_c.specs.declared.key.Key.{Key}
use Rattle.gix_config_c.specs.declared.key.SectionKey.{SectionKey}

-- the subsection, if there is one
abbrev pub subsection_of : Key → Option (List ℕ)
subsection_of key = if key.has_subsection then Some key.subsection.now else None

-- the names; none if one that has to be text isn't
abbrev pub names_of : Key → Option base.Key
names_of key =
    if is_utf8 key.section.now && is_utf8 key.name.now
    then Some (record { section = key.section.now; subsection = subsection_of key; name = key.name.now })
    else None

-- the names of a section; none if the section's isn't text
abbrev pub section_names_of : SectionKey → Option sections.SectionKey
section_names_of key =
    if is_utf8 key.name.now
    then Some (record { section = key.name.now; subsection = if key.has_subsection then Some key.subsection.now else None })
    else None

-- number 0 for a text that is a key; 101 for one whose names that have to be text aren't, 100 for one without a dot
abbrev pub key_number : (text : List ℕ) → ℕ
key_number text = if is_some (parsed_key text) then 0 else if is_some (position is_dot text) then 101 else 100
