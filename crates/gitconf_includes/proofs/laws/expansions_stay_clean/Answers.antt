use Rattle.gitconf_includes.proofs.States.{all_headed, clean_stays}
use Rattle.gitconf_includes.proofs.laws.expansions_stay_clean.Goals as goal

pub returns-clause-clean : goal.returns-clause-clean
returns-clause-clean c = clean_stays

pub returns-clause-texts : goal.returns-clause-texts
returns-clause-texts c files asks left state tells headed = all_headed files asks tells headed left state
