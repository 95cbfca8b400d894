use Rattle.std.proofs.Common.{◌≡◌, ◌≤◌, ◌-◌, ◌++◌, drop, length}
use Rattle.gitconf_glob.specs.Places.{joined}
use Rattle.gitconf_glob.proofs.places.join.Given as goal

abbrev pub invariant-loop-j : goal.invariant-loop-j
invariant-loop-j l = record {
  within : l.j ≤ length l.text;
  same : l.cells.items ++ joined l.ignore_case l.member (drop l.j l.text) (drop l.j l.behind) ≡ joined l.ignore_case l.member l.text l.behind;
}

abbrev pub decreases-loop-j : goal.decreases-loop-j
decreases-loop-j l = length l.text - l.j
