use Rattle.gitconf_includes.specs.Rules.{resolved}
use Rattle.gitconf_loaders.specs.Errors.{git_says}
use Rattle.gix_config_laws.proofs.LoadedFiles.{repository_begins}
use Rattle.gix_config_laws.proofs.beginnings.from_git_dir.Goals as goal

pub returns : goal.returns
returns g c =
    let call = c.from_git_dir-loaded in
    repository_begins git_says _ c.args.host.places _ c.args.dir.now (resolved c.args.real) call.result call.ensures.loaded c.begins.ensures
