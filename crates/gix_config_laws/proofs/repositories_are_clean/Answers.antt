use Rattle.gix_config_laws.proofs.CleanLoads.{repository_clean, repository_texts}
use Rattle.gix_config_laws.proofs.repositories_are_clean.Goals as goal

pub returns-clause-clean : goal.returns-clause-clean
returns-clause-clean c = repository_clean

pub returns-clause-texts : goal.returns-clause-texts
returns-clause-texts c = repository_texts
