use Rattle.gitconf_loaders.specs.Errors.{init_says}
use Rattle.gix_config_laws.proofs.LoadedFiles.{text_begins, whole_text_begins}
use Rattle.gix_config_laws.proofs.beginnings.from_bytes_owned.Goals as goal

pub returns-clause-headed : goal.returns-clause-headed
returns-clause-headed g c =
    let call = c.from_bytes_owned-loaded in
    text_begins init_says _ _ _ call.result call.ensures.made c.begins.ensures

pub returns-clause-whole : goal.returns-clause-whole
returns-clause-whole g c =
    let call = c.from_bytes_owned-loaded in
    whole_text_begins init_says _ _ _ call.result call.ensures.made c.begins.ensures
