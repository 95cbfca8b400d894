use Rattle.gitconf_loaders.specs.Errors.{init_says}
use Rattle.gitconf_includes.proofs.Lossy.{documents_alike}
use Rattle.gitconf_loaders.proofs.LossyLoads.{made_alike, paths_alike}
use Rattle.gitconf_loaders.proofs.laws.lossy_loads_say_the_same.Goals as goal

pub returns-clause-text : goal.returns-clause-text
returns-clause-text c = λ rules files. made_alike rules files init_says

pub returns-clause-paths : goal.returns-clause-paths
returns-clause-paths c = paths_alike

pub returns-clause-document : goal.returns-clause-document
returns-clause-document c = documents_alike
