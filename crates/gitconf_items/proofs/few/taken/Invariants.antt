use Rattle.std.proofs.Common.{◌≡◌, ◌++◌}
use Rattle.std.specs.Vec.Iter.{drain_items}
use Rattle.gitconf_items.proofs.few.taken.Given as goal

-- what was moved, and what is left
abbrev pub invariant-loop-item : goal.invariant-loop-item
invariant-loop-item l = (goal.iterator-loop-item).can_next l.item-iterator
    × (goal.iterator-loop-item).is_finite l.item-iterator
    × (l.few.items ++ drain_items l.item-iterator ≡ l.fn.items.items)
    × (l.few.capacity ≡ 4)
