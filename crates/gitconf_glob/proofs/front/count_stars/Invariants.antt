use Rattle.std.proofs.Common.{◌≡◌, ◌≤◌, ◌-◌, drop, length}
use Rattle.gitconf_glob.specs.Cursor as cursor
use Rattle.gitconf_glob.proofs.front.count_stars.Given as goal

abbrev pub invariant-loop-i : goal.invariant-loop-i
invariant-loop-i l = record {
  within : l.i ≤ length l.text;
  same : cursor.stars_from l.i (drop l.i l.text) ≡ cursor.stars_from 0 l.text;
}

abbrev pub decreases-loop-i : goal.decreases-loop-i
decreases-loop-i l = length l.text - l.i
