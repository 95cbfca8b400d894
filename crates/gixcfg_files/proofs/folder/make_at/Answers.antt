use Rattle.gixcfg_files.proofs.Acting.{make_grows}
use Rattle.gixcfg_files.proofs.folder.make_at.Goals as goal

pub returns-in-Ok-clause-grows : goal.returns-in-Ok-clause-grows
returns-in-Ok-clause-grows g c = make_grows _ _ _ c.make.result c.make.ensures
