use Rattle.std.proofs.Common.{◌++◌}
use Rattle.std.specs.Prelude.{flat_map}
use Rattle.gitconf_views.specs.Views.{sections_left}
use Rattle.gixcfg_core.specs.Pieces.{HasUpTo}
use Rattle.gixcfg_commands.specs.Entries.{file_lines, lines_in}
use Rattle.gixcfg_commands.proofs.entries.put_all_lines.Given as goal

-- left are what is held back, and the lines of the sections that are left
abbrev pub invariant-loop-section : goal.invariant-loop-section
invariant-loop-section g l =
    HasUpTo (file_lines l.form l.read l.file) (l.held.items ++ flat_map (lines_in l.form l.read) (sections_left l.section-iterator))
    (g.W.Write.contents l.fn.out) (g.W.Write.contents l.out)
