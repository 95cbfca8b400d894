use Rattle.std.proofs.Common.{◌≡◌, length}
use Rattle.gitconf_state.specs.State.{entries_of}
use Rattle.gitconf_items.specs.Items.{items_of}
use Rattle.gitconf_body.specs.Bodies.{has_key}
use Rattle.gitconf_body.proofs.entries.contains_key.Given as goal

-- no entry of the key stands before these items
abbrev pub invariant-loop-entry : goal.invariant-loop-entry
invariant-loop-entry l = has_key l.key (entries_of (items_of l.buffer l.rest)) ≡ has_key l.key (entries_of (items_of l.buffer l.items))

abbrev pub decreases-loop-entry : goal.decreases-loop-entry
decreases-loop-entry l = length l.rest
