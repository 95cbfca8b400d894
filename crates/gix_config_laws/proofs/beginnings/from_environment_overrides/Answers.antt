use Rattle.gitconf_loaders.specs.Errors.{env_says}
use Rattle.gix_config_laws.proofs.LoadedFiles.{overrides_begin}
use Rattle.gix_config_laws.proofs.beginnings.from_environment_overrides.Goals as goal

pub returns : goal.returns
returns g c =
    let call = c.from_environment_overrides-loaded in
    overrides_begin env_says _ c.args.host.places _ call.result call.ensures.made c.begins.ensures
