use Rattle.std.proofs.Common.{Err, Ok, inl, inr, refl}
use Rattle.gix_config_c.proofs.FaultLemmas.{memory_number, of_rules}
use Rattle.gix_config_c.proofs.loading.resolve_by.Goals as goal

-- the copy takes the file's place
pub returns-in-Ok-clause-answer : goal.returns-in-Ok-clause-answer
returns-in-Ok-clause-answer c = of_rules _ _ _ c.in-Some.ensures (record {
  resolved = λ short. (Ok tt, (refl, c.in-Ok.ensures.made, (refl, refl, refl)));
})

-- the refusal of an include; that memory ran out is told apart
pub returns-in-Err-clause-answer : goal.returns-in-Err-clause-answer
returns-in-Err-clause-answer c = of_rules _ _ _ c.in-Some.ensures (record {
  resolved = λ short. let answered = c.refused_include.ensures.answer short in (
    Err c.in-Err.refusal,
    (
      elim c.in-Err.ensures.refused [
        | inl memory ↦ absurd (short (memory_number _ _ _ _ _ memory answered))
        | inr left ↦ left
      ],
      answered,
    ),
  );
})
