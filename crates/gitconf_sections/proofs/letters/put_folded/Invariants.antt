use Rattle.std.proofs.Common.{◌≡◌, ◌+◌, ◌++◌, length, vec_capacity, vec_len}
use Rattle.gitconf_text.specs.Bytes.{fold}
use Rattle.gitconf_sections.specs.Word.{nothing_behind, with_bytes}
use Rattle.gitconf_sections.proofs.letters.put_folded.Given as goal

abbrev pub invariant-loop-byte : goal.invariant-loop-byte
invariant-loop-byte l = record {
  items : l.letters.items ++ fold l.rest ≡ l.fn.letters.items ++ fold l.initial.rest;
  mixing : with_bytes l.mixing (fold l.rest) ≡ with_bytes (nothing_behind l.fn.seed) (fold l.initial.rest);
  len : vec_len l.letters + length l.rest ≡ vec_len l.fn.letters + length l.initial.rest;
  room : vec_capacity l.letters ≡ vec_capacity l.fn.letters;
}

abbrev pub decreases-loop-byte : goal.decreases-loop-byte
decreases-loop-byte l = length l.rest
