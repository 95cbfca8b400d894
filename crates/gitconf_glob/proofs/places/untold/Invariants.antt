use Rattle.std.proofs.Common.{◌≡◌, ◌≤◌, ◌-◌, length, replicate, None}
use Rattle.gitconf_glob.proofs.places.untold.Given as goal

abbrev pub invariant-loop-places : goal.invariant-loop-places
invariant-loop-places l = record {
  within : length l.places.items ≤ l.count;
  same : l.places.items ≡ replicate (length l.places.items) None;
}

abbrev pub decreases-loop-places : goal.decreases-loop-places
decreases-loop-places l = l.count - length l.places.items
