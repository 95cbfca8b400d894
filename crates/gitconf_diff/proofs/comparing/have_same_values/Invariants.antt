use Rattle.std.proofs.Common.{◌≡◌, length, drop}
use Rattle.gitconf_diff.proofs.Walked.{have_same}
use Rattle.gitconf_diff.proofs.comparing.have_same_values.Given as goal

abbrev pub invariant-loop-at : goal.invariant-loop-at
invariant-loop-at l = record {
  so : have_same l.one l.other ≡ have_same (drop l.at l.one) (drop l.at l.other);
  long : length l.one ≡ length l.other;
}
