use Rattle.gixcfg_files.proofs.Acting.{act_grows}
use Rattle.gixcfg_files.proofs.made.remove_there.Goals as goal

pub returns-in-Err : goal.returns-in-Err
returns-in-Err g c = act_grows _ _ _ c.remove.ensures

pub returns-in_default : goal.returns-in_default
returns-in_default g c = act_grows _ _ _ c.remove.ensures

pub returns-in_default-2 : goal.returns-in_default-2
returns-in_default-2 g c = act_grows _ _ _ c.remove.ensures
