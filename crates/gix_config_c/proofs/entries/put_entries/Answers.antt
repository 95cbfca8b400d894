use Rattle.std.proofs.Common.{inl, inr}
use Rattle.gix_config_c.proofs.entries.put_entries.Goals as goal

-- what was put there is what was made
pub returns-clause-answer : goal.returns-clause-answer
returns-clause-answer c = record {
  done = λ done. (c.in-Ok.entries, c.put_list.ensures.done done, c.in-Ok.ensures);
  short = λ no. elim c.put_list.ensures.number [ inl done ↦ absurd (no done) | inr short ↦ short ];
}
