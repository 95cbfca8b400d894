use Rattle.std.proofs.Common.{length}
use Rattle.gitconf_items.specs.Items.{item_of}
use Rattle.gitconf_state.specs.Edit.{is_entry_of}
use Rattle.gitconf_body.specs.Places.{IsFront}
use Rattle.gitconf_body.proofs.seeking.last_place.Given as goal

abbrev pub invariant-loop-item : goal.invariant-loop-item
invariant-loop-item l = IsFront (λ i. is_entry_of l.key (item_of l.buffer i)) l.items l.rest

abbrev pub decreases-loop-item : goal.decreases-loop-item
decreases-loop-item l = length l.rest
