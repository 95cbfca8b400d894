use Rattle.std.proofs.Common.{◌≤◌, ◌-◌, length}
use Rattle.gitconf_glob.proofs.table.empty_rows.Given as goal

abbrev pub invariant-loop-alloc : goal.invariant-loop-alloc
invariant-loop-alloc l = length l.rows.items ≤ l.count

abbrev pub decreases-loop-alloc : goal.decreases-loop-alloc
decreases-loop-alloc l = l.count - length l.rows.items
