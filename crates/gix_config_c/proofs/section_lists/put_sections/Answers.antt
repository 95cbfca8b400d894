use Rattle.std.proofs.Common.{inl, inr}
use Rattle.gix_config_c.proofs.section_lists.put_sections.Goals as goal

-- what was put there is what was made
pub returns-clause-answer : goal.returns-clause-answer
returns-clause-answer c = record {
  done = λ done. (c.in-Ok.sections, c.put_list.ensures.done done, c.in-Ok.ensures);
  short = λ no. elim c.put_list.ensures.number [ inl done ↦ absurd (no done) | inr short ↦ short ];
}
