use Rattle.std.proofs.Common.{◌≡◌, length}
use Rattle.gitconf_state.specs.LineEnds as spec
use Rattle.gitconf_print.proofs.line_end.holds.Given as goal

-- it begins at no byte before
abbrev pub invariant-loop-behind : goal.invariant-loop-behind
invariant-loop-behind l = spec.holds l.line_end l.rest ≡ spec.holds l.line_end l.run

abbrev pub decreases-loop-behind : goal.decreases-loop-behind
decreases-loop-behind l = length l.rest
