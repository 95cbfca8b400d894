use Rattle.std.proofs.Common.{◌≡◌, ◌≤◌}
use Rattle.gitconf_values.specs.Paths as spec
use Rattle.gitconf_values.proofs.path.trimmed_length.Given as goal

abbrev pub invariant-loop-left : goal.invariant-loop-left
invariant-loop-left l = record {
  within : l.left ≤ l.end;
  same : spec.trimmed_length l.left l.path ≡ spec.trimmed_length l.end l.path;
}

abbrev pub decreases-loop-left : goal.decreases-loop-left
decreases-loop-left l = l.left
