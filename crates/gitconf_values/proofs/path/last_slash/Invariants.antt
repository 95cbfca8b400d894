use Rattle.std.proofs.Common.{◌≡◌, ◌≤◌}
use Rattle.gitconf_values.specs.Paths as spec
use Rattle.gitconf_values.proofs.path.last_slash.Given as goal

abbrev pub invariant-loop-left : goal.invariant-loop-left
invariant-loop-left l = record {
  within : l.left ≤ l.end;
  same : spec.last_slash l.left l.path ≡ spec.last_slash l.end l.path;
}

abbrev pub decreases-loop-left : goal.decreases-loop-left
decreases-loop-left l = l.left
