use Rattle.std.proofs.Common.{◌≡◌, ◌++◌, map}
use Rattle.std.specs.Prelude.{flat_map}
use Rattle.gitconf_views.specs.Views.{sections_left}
use Rattle.gixcfg_core.specs.Entries.{plain_found}
use Rattle.gixcfg_commands.specs.Entries.{entries_in, file_entries}
use Rattle.gixcfg_commands.proofs.entries.all_entries.Given as goal

-- what is found so far, and what is in the sections that are left
abbrev pub invariant-loop-section : goal.invariant-loop-section
invariant-loop-section l = map plain_found l.found.items ++ flat_map (entries_in l.form l.read) (sections_left l.section-iterator) ≡ file_entries l.form l.read l.file
