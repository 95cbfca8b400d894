use Rattle.std.proofs.Common.{Err}
use Rattle.gix_config_c.proofs.loading.put_loaded.Goals as goal

-- the refusal of the load
pub returns-in-Err-clause-answer : goal.returns-in-Err-clause-answer
returns-in-Err-clause-answer c = record {
  load = λ short. (Err c.in-Err.refusal, c.in-Err.ensures, c.refused_load.ensures.answer short);
}
