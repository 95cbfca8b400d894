use Rattle.std.proofs.Common.{◌∙◌}
use Rattle.gix_config_c.proofs.ValueLemmas.{of_key, values_refused}
use Rattle.gix_config_c.proofs.existing.set_values.Goals as goal

-- the refusal
pub returns-in-Err : goal.returns-in-Err
returns-in-Err c = record {
  answer = of_key _ _ _ c.in-Some.ensures (values_refused _ _ _ _ _ c.in-Err.refusal c.in-Err.ensures (c.from.ensures ∙ c.number.ensures));
  same = λ none. let e = c.in-Some.ensures ∙ none in absurd (cc);
}
