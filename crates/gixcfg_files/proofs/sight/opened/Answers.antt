use Rattle.gixcfg_files.proofs.Acting.{open_grows}
use Rattle.gixcfg_files.proofs.sight.opened.Goals as goal

pub returns-in-Ok-clause-grows : goal.returns-in-Ok-clause-grows
returns-in-Ok-clause-grows g c = open_grows _ _ _ c.open.result c.open.ensures

pub returns-in-Ok-2-clause-grows : goal.returns-in-Ok-2-clause-grows
returns-in-Ok-2-clause-grows g c = open_grows _ _ _ c.open.result c.open.ensures
