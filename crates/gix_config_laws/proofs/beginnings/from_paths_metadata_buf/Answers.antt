use Rattle.gitconf_loaders.specs.Errors.{paths_says}
use Rattle.gix_config_laws.proofs.LoadedFiles.{paths_begin}
use Rattle.gix_config_laws.proofs.beginnings.from_paths_metadata_buf.Goals as goal

pub returns : goal.returns
returns g c =
    let call = c.from_paths_metadata_buf-loaded in
    paths_begin paths_says c.args.err_on_non_existing_paths c.args.options.ignore_io_errors _ c.args.metas.items call.result call.ensures.loaded c.begins_if_some.ensures
