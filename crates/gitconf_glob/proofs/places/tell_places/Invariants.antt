use Rattle.std.proofs.Common.{◌≡◌, ◌≤◌, ◌+◌, drop, length, map}
use Rattle.gitconf_glob.specs.Counted.{close_from}
use Rattle.gitconf_glob.specs.Places.{all_known, shown}
use Rattle.gitconf_glob.proofs.places.tell_places.Given as goal

abbrev pub invariant-loop-i : goal.invariant-loop-i
invariant-loop-i l = record {
  within : l.i ≤ length l.pattern;
  count : length l.places.items ≡ length l.pattern + 1;
  close : l.close ≡ close_from 0 (drop l.i l.pattern);
  same : map shown (drop l.i l.places.items) ≡ all_known l.ignore_case l.text (drop l.i l.pattern);
}

abbrev pub decreases-loop-i : goal.decreases-loop-i
decreases-loop-i l = l.i
