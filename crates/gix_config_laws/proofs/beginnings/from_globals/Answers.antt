use Rattle.gitconf_loaders.specs.Errors.{paths_says}
use Rattle.gix_config_laws.proofs.LoadedFiles.{globals_begin}
use Rattle.gix_config_laws.proofs.beginnings.from_globals.Goals as goal

pub returns : goal.returns
returns g c =
    let call = c.from_globals-loaded in
    globals_begin paths_says _ c.args.host.places _ call.result call.ensures.loaded c.begins.ensures
