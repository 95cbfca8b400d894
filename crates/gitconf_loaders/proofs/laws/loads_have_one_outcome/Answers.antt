use Rattle.gitconf_loaders.proofs.OneLoader.{one_global, one_load_of_paths, one_loaded_from}
use Rattle.gitconf_loaders.proofs.laws.loads_have_one_outcome.Goals as goal

pub returns-clause-path : goal.returns-clause-path
returns-clause-path c = one_loaded_from

pub returns-clause-paths : goal.returns-clause-paths
returns-clause-paths c = one_load_of_paths

pub returns-clause-globals : goal.returns-clause-globals
returns-clause-globals c = one_global
