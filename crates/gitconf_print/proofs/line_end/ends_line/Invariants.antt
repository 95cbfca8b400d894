use Rattle.std.proofs.Common.{◌≡◌, length}
use Rattle.gitconf_state.specs.LineEnds as spec
use Rattle.gitconf_items.specs.Items.{items_of}
use Rattle.gitconf_text.specs.LineEnds.{bytes_of_line_end}
use Rattle.gitconf_print.proofs.line_end.ends_line.Given as goal

-- after the rest are blanks and line endings that hold none
abbrev pub invariant-loop-item : goal.invariant-loop-item
invariant-loop-item l =
    spec.ends_line (bytes_of_line_end l.line_end) (items_of l.buffer l.rest) ≡ spec.ends_line (bytes_of_line_end l.line_end) (items_of l.buffer l.items)

abbrev pub decreases-loop-item : goal.decreases-loop-item
decreases-loop-item l = length l.rest
