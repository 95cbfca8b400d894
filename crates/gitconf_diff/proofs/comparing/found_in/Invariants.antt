use Rattle.std.proofs.Common.{◌≡◌, ◌≤◌, length, drop, None}
use Rattle.gitconf_diff.specs.PlainSettings.{plain_mentions, found_in}
use Rattle.gitconf_diff.proofs.comparing.found_in.Given as goal

abbrev pub invariant-loop-at : goal.invariant-loop-at
invariant-loop-at l = record {
  none : found_in (plain_mentions (drop l.at l.mentions)) ≡ None;
  within : l.at ≤ length l.mentions;
}

abbrev pub decreases-loop-at : goal.decreases-loop-at
decreases-loop-at l = l.at
