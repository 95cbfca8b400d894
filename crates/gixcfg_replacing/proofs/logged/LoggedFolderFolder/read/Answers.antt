use Rattle.std.proofs.Common.{◌∙◌, ap}
use Rattle.gixcfg_replacing.specs.Disk.{last_found}
use Rattle.gixcfg_replacing.proofs.logged.LoggedFolderFolder.read.Goals as goal

pub returns-clause-text : goal.returns-clause-text
returns-clause-text g c = λ quiet. c.in_ok-text_at.ensures ∙ ap last_found ((c.refresh.ensures.others.alone c.args.name.now).kept quiet).found
