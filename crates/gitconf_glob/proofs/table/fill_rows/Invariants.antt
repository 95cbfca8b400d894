use Rattle.std.proofs.Common.{◌≡◌, ◌+◌, ◌≤◌, drop, length, map}
use Rattle.std.specs.Prelude.{vec_items}
use Rattle.gitconf_glob.specs.Rows.{rows_of, is_fresh_at}
use Rattle.gitconf_glob.proofs.table.fill_rows.Given as goal

abbrev pub invariant-loop-i : goal.invariant-loop-i
invariant-loop-i l = record {
  within : l.i ≤ length l.pattern;
  count : length l.rows.items ≡ length l.pattern + 1;
  same : map vec_items (drop l.i l.rows.items) ≡ rows_of l.ignore_case (is_fresh_at l.fresh l.i l.pattern) (drop l.i l.pattern) l.text;
}

abbrev pub decreases-loop-i : goal.decreases-loop-i
decreases-loop-i l = l.i
