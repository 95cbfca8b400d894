use Rattle.std.proofs.Common.{Err}
use Rattle.gitconf_loaders.specs.Errors.{paths_number}
use Rattle.gix_config_c.specs.Loaded.{load_path}
use Rattle.gix_config_c.proofs.HostLemmas.{answered_for}
use Rattle.gix_config_c.proofs.global_loads.put_known.Goals as goal

-- the refusal of the load
pub returns-in-Err-clause-answer : goal.returns-in-Err-clause-answer
returns-in-Err-clause-answer c = λ short. (
  Err c.in-Err.refusal,
  c.in-Err.ensures,
  answered_for _ (load_path c.in-Err.refusal) (paths_number c.in-Err.refusal) _ _ _ (c.refused_load.ensures.answer short),
)
