use Rattle.std.proofs.Common.{true}
use Rattle.gitconf_loaders.specs.Errors.{paths_says}
use Rattle.gix_config_laws.proofs.LoadedFiles.{paths_begin}
use Rattle.gix_config_laws.proofs.beginnings.from_paths_metadata.Goals as goal

pub returns : goal.returns
returns g c =
    let call = c.from_paths_metadata-loaded in
    paths_begin paths_says true c.args.options.ignore_io_errors _ c.args.metas.items call.result call.ensures.loaded c.begins_if_some.ensures
