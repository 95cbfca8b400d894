use Rattle.std.proofs.Common.{◌≡◌, ◌++◌, ◌+◌, ◌≤◌, length}
use Rattle.std.specs.Prelude.{vec_len, vec_capacity}
use Rattle.gitconf_text.specs.Value.{plain}
use Rattle.gitconf_text.proofs.value.decoding.decoded.Given as goal

abbrev pub invariant-loop-first : goal.invariant-loop-first
invariant-loop-first l = record {
  meant : l.out.items ++ plain l.left ≡ plain l.text;
  few : vec_len l.out + length l.left ≤ length l.text;
  room : vec_capacity l.out ≡ length l.text;
}

abbrev pub decreases-loop-first : goal.decreases-loop-first
decreases-loop-first l = length l.left
