use Rattle.std.proofs.Common.{◌≡◌, ℕ, List, Option, Some, None, ◌∙◌}
use Rattle.gix_config_c.proofs.repository_loads.load_repository_at.Goals as goal

-- all that it always needs was told
pub returns-in-None-clause-answer : goal.returns-in-None-clause-answer
returns-in-None-clause-answer c = record {
  load = λ short. record {
    untold = λ name is. let no : ◌≡◌ {A = Option (List ℕ)} None (Some name) = c.in-None.ensures ∙ is in absurd (cc);
    known = λ none. c.put_repository.ensures.answer short;
  };
}
