use Rattle.gixcfg_files.proofs.Acting.{done_grows, grows_on}
use Rattle.gixcfg_files.proofs.folder.sign.Goals as goal

pub returns-in-Ok-clause-grows : goal.returns-in-Ok-clause-grows
returns-in-Ok-clause-grows g c = grows_on _ _ _ (done_grows _ _ c.write.result _ c.write.ensures.told) (done_grows _ _ c.link.result _ c.link.ensures)

pub returns-in-Err-clause-grows : goal.returns-in-Err-clause-grows
returns-in-Err-clause-grows g c = done_grows _ _ c.write.result _ c.write.ensures.told
