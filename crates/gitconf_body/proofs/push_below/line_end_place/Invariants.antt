use Rattle.std.proofs.Common.{length}
use Rattle.gitconf_body.specs.Below.{IsWalked}
use Rattle.gitconf_body.proofs.push_below.line_end_place.Given as goal

abbrev pub invariant-loop-item : goal.invariant-loop-item
invariant-loop-item l = IsWalked l.items l.rest l.found

abbrev pub decreases-loop-item : goal.decreases-loop-item
decreases-loop-item l = length l.rest
