use Rattle.gixcfg_files.proofs.Acting.{act_grows}
use Rattle.gixcfg_files.proofs.made.shares_owner.Goals as goal

pub returns-else-original-rights : goal.returns-else-original-rights
returns-else-original-rights g c = act_grows _ _ _ c.give_owner.ensures
