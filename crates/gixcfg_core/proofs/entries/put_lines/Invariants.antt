use Rattle.std.proofs.Common.{◌++◌, length}
use Rattle.std.specs.Prelude.{flat_map}
use Rattle.gitconf_items.specs.Items.{items_of}
use Rattle.gitconf_state.specs.State.{entries_of}
use Rattle.gitconf_views.specs.Views.{shown}
use Rattle.gixcfg_core.specs.Entries.{entry_line, section_lines}
use Rattle.gixcfg_core.specs.Pieces.{HasUpTo}
use Rattle.gixcfg_core.proofs.entries.put_lines.Given as goal

-- left are what is held back, and the lines of the items that are left
abbrev pub invariant-loop-entry : goal.invariant-loop-entry
invariant-loop-entry g l =
    HasUpTo (l.fn.held.items ++ section_lines l.line l.before (shown l.section))
    (l.held.items ++ flat_map (entry_line l.line l.before (shown l.section)) (entries_of (items_of l.section.buffer.now l.rest)))
    (g.W.Write.contents l.fn.out) (g.W.Write.contents l.out)

abbrev pub decreases-loop-entry : goal.decreases-loop-entry
decreases-loop-entry g l = length l.rest
