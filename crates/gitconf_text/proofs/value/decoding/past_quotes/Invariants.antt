use Rattle.std.proofs.Common.{◌≡◌, ◌≤◌, length}
use Rattle.gitconf_text.specs.Value.{plain}
use Rattle.gitconf_text.proofs.value.decoding.past_quotes.Given as goal

abbrev pub invariant-loop-left : goal.invariant-loop-left
invariant-loop-left l = record {
  meant : plain l.left ≡ plain l.text;
  few : length l.left ≤ length l.text;
}

abbrev pub decreases-loop-left : goal.decreases-loop-left
decreases-loop-left l = length l.left

abbrev pub invariant-loop-left-2 : goal.invariant-loop-left-2
invariant-loop-left-2 l = record {
  meant : plain l.left ≡ plain l.text;
  few : length l.left ≤ length l.text;
}

abbrev pub decreases-loop-left-2 : goal.decreases-loop-left-2
decreases-loop-left-2 l = length l.left
