use Rattle.std.proofs.Common.{length}
use Rattle.gitconf_body.specs.Places.{IsFront}
use Rattle.gitconf_body.specs.Spacings.{is_stored_entry}
use Rattle.gitconf_body.proofs.take_out.last_entry.Given as goal

abbrev pub invariant-loop-item : goal.invariant-loop-item
invariant-loop-item l = IsFront is_stored_entry l.items l.rest

abbrev pub decreases-loop-item : goal.decreases-loop-item
decreases-loop-item l = length l.rest
