use Rattle.gixcfg_files.proofs.Acting.{read_grows, grows_on}
use Rattle.gixcfg_files.proofs.folder.read_same.Goals as goal

pub returns-in_ok-text-in-File-clause-grows : goal.returns-in_ok-text-in-File-clause-grows
returns-in_ok-text-in-File-clause-grows g c = grows_on _ _ _ c.sight_of.ensures.grows (read_grows _ _ _ c.read.result c.read.ensures)
