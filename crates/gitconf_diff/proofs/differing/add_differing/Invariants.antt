use Rattle.std.proofs.Common.{◌≡◌, ◌≤◌, ◌-◌, ◌++◌, drop, length, map}
use Rattle.gitconf_diff.specs.Differences.{different_of, plainly}
use Rattle.gitconf_diff.specs.PlainSettings.{kept_of, plain_mentions}
use Rattle.gitconf_diff.proofs.Orders.{Ascends}
use Rattle.gitconf_diff.proofs.differing.add_differing.Given as goal

-- what was added, and what is to be added of the entries that are left
abbrev pub invariant-loop-first : goal.invariant-loop-first
invariant-loop-first l = record {
  settled : map different_of l.differences.items ++ map plainly (kept_of (plain_mentions (drop l.at l.mentions))) ≡ map different_of l.fn.differences.items ++ map plainly (kept_of (plain_mentions l.mentions));
  up : Ascends (plain_mentions (drop l.at l.mentions));
  within : l.at ≤ length l.mentions;
}

abbrev pub decreases-loop-first : goal.decreases-loop-first
decreases-loop-first l = length l.mentions - l.at
