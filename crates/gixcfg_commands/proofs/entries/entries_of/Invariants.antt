use Rattle.std.proofs.Common.{◌≡◌, ◌++◌, map, Some}
use Rattle.std.specs.Prelude.{filter, flat_map}
use Rattle.gitconf_text.specs.Header.{subsection_of}
use Rattle.gitconf_sources.specs.Key.{key_of}
use Rattle.gitconf_views.specs.Views.{sections_left}
use Rattle.gixcfg_core.specs.Entries.{found_in, is_listed_under, plain_found}
use Rattle.gixcfg_core.specs.Origins.{before_of}
use Rattle.gixcfg_commands.specs.Entries.{key_entries}
use Rattle.gixcfg_commands.proofs.entries.entries_of.Given as goal

-- what is found so far, and what is in the sections that are left
abbrev pub invariant-loop-section : goal.invariant-loop-section
invariant-loop-section l =
    map plain_found l.found.items
    ++ flat_map (λ s. found_in (before_of l.form s.meta l.read) (subsection_of s.header) (Some (key_of l.key).name) s) (filter (is_listed_under (key_of l.key)) (sections_left l.section-iterator))
    ≡ key_entries l.form l.read (key_of l.key) l.file
