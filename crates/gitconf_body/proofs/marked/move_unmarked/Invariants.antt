use Rattle.std.specs.Vec.{vec_capacity}
use Rattle.std.proofs.Common.{length}
use Rattle.gitconf_body.proofs.Unmarked.{Moved}
use Rattle.gitconf_body.proofs.marked.move_unmarked.Given as goal

abbrev pub invariant-loop-item : goal.invariant-loop-item
invariant-loop-item l = Moved l.buffer l.key l.marks l.initial.items.items l.items.items l.moved.items (vec_capacity l.moved) l.entries l.gone l.goes_behind

abbrev pub decreases-loop-item : goal.decreases-loop-item
decreases-loop-item l = length l.items.items
