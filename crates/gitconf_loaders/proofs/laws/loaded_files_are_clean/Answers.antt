use Rattle.gitconf_loaders.specs.Errors.{init_says}
use Rattle.gitconf_loaders.proofs.Clean.{from_path, global_clean, made, made_whole, paths_clean}
use Rattle.gitconf_loaders.proofs.laws.loaded_files_are_clean.Goals as goal

pub returns-clause-path : goal.returns-clause-path
returns-clause-path c = from_path

pub returns-clause-paths : goal.returns-clause-paths
returns-clause-paths c = paths_clean

pub returns-clause-globals : goal.returns-clause-globals
returns-clause-globals c = global_clean

pub returns-clause-whole : goal.returns-clause-whole
returns-clause-whole c = λ asks text place file whole included is_made. made_whole asks init_says text place file whole included is_made

pub returns-clause-text : goal.returns-clause-text
returns-clause-text c = λ asks text place file none is_made. let headed = made asks init_says text place file none is_made in (headed.clean, headed.front)
