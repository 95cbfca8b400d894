use Rattle.gixcfg_files.proofs.Acting.{look_grows, grows_on}
use Rattle.gixcfg_files.proofs.sight.sight_of.Goals as goal

pub returns-in_err-look-clause-grows : goal.returns-in_err-look-clause-grows
returns-in_err-look-clause-grows g c = look_grows _ _ _ c.look.result c.look.ensures

pub returns-in-None-clause-grows : goal.returns-in-None-clause-grows
returns-in-None-clause-grows g c = look_grows _ _ _ c.look.result c.look.ensures

pub returns-in-Link-clause-grows : goal.returns-in-Link-clause-grows
returns-in-Link-clause-grows g c = look_grows _ _ _ c.look.result c.look.ensures

pub returns-in-Other-clause-grows : goal.returns-in-Other-clause-grows
returns-in-Other-clause-grows g c = look_grows _ _ _ c.look.result c.look.ensures

pub returns-in-File-clause-grows : goal.returns-in-File-clause-grows
returns-in-File-clause-grows g c = grows_on _ _ _ (look_grows _ _ _ c.look.result c.look.ensures) c.opened.ensures.grows
