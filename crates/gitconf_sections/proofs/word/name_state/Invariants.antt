use Rattle.std.proofs.Common.{◌≡◌, length}
use Rattle.gitconf_text.specs.Bytes.{fold}
use Rattle.gitconf_sections.specs.Word.{nothing_behind, with_bytes}
use Rattle.gitconf_sections.proofs.word.name_state.Given as goal

abbrev pub invariant-loop-byte : goal.invariant-loop-byte
invariant-loop-byte l = with_bytes l.mixing (fold l.rest) ≡ with_bytes (nothing_behind l.fn.seed) (fold l.initial.rest)

abbrev pub decreases-loop-byte : goal.decreases-loop-byte
decreases-loop-byte l = length l.rest
