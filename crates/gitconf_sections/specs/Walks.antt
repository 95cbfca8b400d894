-- What walks over the sections have left.
use Rattle.std.specs.Prelude.{ℕ, List, map, filter}
use Rattle.std.specs.Option.{option_copied}
use Rattle.gitconf_text.specs.Sections.{has_name, is_named}
use Rattle.gitconf_sections.specs.declared.row.Section as views
use Rattle.gitconf_sections.specs.declared.sections.walks.Iter.{Iter}
use Rattle.gitconf_sections.specs.declared.sections.walks.Named.{Named}
use Rattle.gitconf_sections.specs.declared.sections.walks.WithName.{WithName}
use Rattle.gitconf_sections.specs.Rows.{entries_at}
use Rattle.gitconf_sections.specs.Section.{Section, read, viewed}

-- an item as its number and the section
abbrev pub shown_section : ℕ × views.Section → ℕ × Section
shown_section item = (item.0, viewed item.1)

-- what a walk over all sections has left, each under its number
abbrev pub sections_left : Iter → List (ℕ × Section)
sections_left it = map (λ r. (r.id, read it.list.now.items r)) it.rows.now

-- what a walk over the sections of a name and subsection has left
abbrev pub named_left : Named → List (ℕ × Section)
named_left it =
    map (λ e. (e.number, e.section))
    (filter (is_named it.name.now (option_copied it.subsection)) (entries_at it.letters.now it.list.now.items it.rows.now it.places))

-- what a walk over the sections of a name has left
abbrev pub with_name_left : WithName → List (ℕ × Section)
with_name_left it =
    map (λ e. (e.number, e.section)) (filter (has_name it.name.now) (entries_at it.letters.now it.list.now.items it.rows.now it.places))
