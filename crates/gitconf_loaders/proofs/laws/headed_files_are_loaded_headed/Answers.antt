use Rattle.std.proofs.Common.{[]}
use Rattle.gitconf_includes.proofs.States.{all_headed, loaded_headed}
use Rattle.gitconf_loaders.specs.Paths.{once}
use Rattle.gitconf_loaders.proofs.Clean.{texts_headed}
use Rattle.gitconf_loaders.proofs.laws.headed_files_are_loaded_headed.Goals as goal

pub returns-clause-paths : goal.returns-clause-paths
returns-clause-paths c files must_exist ignores asks metas tells texts = texts_headed files asks tells texts must_exist ignores (once [] metas)

pub returns-clause-text : goal.returns-clause-text
returns-clause-text c files asks text place tells texts none file load =
    ((loaded_headed asks.rules.lossy text place file none load).front, all_headed files asks tells texts asks.rules.max_depth file)
