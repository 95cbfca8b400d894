use Rattle.std.proofs.Common.{◌≡◌, ◌++◌, map, length}
use Rattle.bstr.specs.Owned.{bstring_bytes}
use Rattle.gitconf_state.specs.State.{entries_of}
use Rattle.gitconf_items.specs.Items.{items_of}
use Rattle.gitconf_body.specs.Bodies.{values_in}
use Rattle.gitconf_body.proofs.entries.meanings.Given as goal

-- the values so far, and those of the items that are left
abbrev pub invariant-loop-entry : goal.invariant-loop-entry
invariant-loop-entry l = map bstring_bytes l.values.items ++ values_in l.key (entries_of (items_of l.buffer l.rest)) ≡ values_in l.key (entries_of (items_of l.buffer l.items))

abbrev pub decreases-loop-entry : goal.decreases-loop-entry
decreases-loop-entry l = length l.rest
