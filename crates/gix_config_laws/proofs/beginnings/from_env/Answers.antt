use Rattle.gitconf_loaders.specs.Errors.{env_says}
use Rattle.gix_config_laws.proofs.LoadedFiles.{env_begins}
use Rattle.gix_config_laws.proofs.beginnings.from_env.Goals as goal

pub returns : goal.returns
returns g c =
    let call = c.from_env-loaded in
    env_begins env_says _ _ call.result call.ensures.made c.begins_if_some.ensures
