use Rattle.gitconf_loaders.specs.Errors.{paths_says}
use Rattle.gix_config_laws.proofs.LoadedFiles.{path_begins}
use Rattle.gix_config_laws.proofs.beginnings.from_path_no_includes.Goals as goal

pub returns : goal.returns
returns g c =
    let call = c.from_path_no_includes-loaded in
    path_begins paths_says _ _ _ call.result call.ensures.loaded c.begins.ensures
