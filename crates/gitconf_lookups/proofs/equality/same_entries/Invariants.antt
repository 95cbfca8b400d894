use Rattle.std.proofs.Common.{◌≡◌, length}
use Rattle.std.specs.Cmp.Lexicographic.{pointwise}
use Rattle.gitconf_state.specs.State.{entries_of}
use Rattle.gitconf_items.specs.Items.{items_of}
use Rattle.gitconf_lookups.specs.Same.{same_entry}
use Rattle.gitconf_lookups.proofs.equality.same_entries.Given as goal

-- what is left decides
abbrev pub invariant-loop-entry : goal.invariant-loop-entry
invariant-loop-entry l =
    pointwise same_entry (entries_of (items_of l.buffer l.left)) (entries_of (items_of l.other_buffer l.right))
    ≡ pointwise same_entry (entries_of (items_of l.buffer l.items)) (entries_of (items_of l.other_buffer l.others))

abbrev pub decreases-loop-entry : goal.decreases-loop-entry
decreases-loop-entry l = length l.left
