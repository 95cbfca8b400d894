use Rattle.std.proofs.Common.{◌≡◌, drop}
use Rattle.gitconf_sections.specs.Word.{mixed_all}
use Rattle.gitconf_sections.proofs.word.text_state.Given as goal

abbrev pub invariant-loop-eight : goal.invariant-loop-eight
invariant-loop-eight l = mixed_all l.state (drop l.eight-index l.eights) ≡ mixed_all l.fn.from l.eights
