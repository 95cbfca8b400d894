use Rattle.gix_config_laws.proofs.OneConfiguration.{one_from_env, one_overrides, one_repository}
use Rattle.gix_config_laws.proofs.configurations_have_one_outcome.Goals as goal

pub returns-clause-made : goal.returns-clause-made
returns-clause-made c = λ variables asks files tells. one_from_env variables asks files tells

pub returns-clause-overrides : goal.returns-clause-overrides
returns-clause-overrides c = one_overrides

pub returns-clause-repository : goal.returns-clause-repository
returns-clause-repository c = one_repository
