use Rattle.gix_config_laws.proofs.CleanLoads.{env_clean, overrides_clean}
use Rattle.gix_config_laws.proofs.files_of_variables_are_clean.Goals as goal

pub returns-clause-made : goal.returns-clause-made
returns-clause-made c = env_clean

pub returns-clause-overrides : goal.returns-clause-overrides
returns-clause-overrides c = overrides_clean
