use Rattle.gixcfg_files.proofs.Acting.{act_grows, looks_grow, grows_on}
use Rattle.gixcfg_files.proofs.left.remove_held.Goals as goal

pub returns-in-Ok-true : goal.returns-in-Ok-true
returns-in-Ok-true g c = grows_on _ _ _ (looks_grow _ _ _ _ c.is_at.result c.is_at.ensures.looks) (act_grows _ _ _ c.remove.ensures)

pub returns-in_default : goal.returns-in_default
returns-in_default g c = looks_grow _ _ _ _ c.is_at.result c.is_at.ensures.looks

pub returns-in_default-2 : goal.returns-in_default-2
returns-in_default-2 g c = looks_grow _ _ _ _ c.is_at.result c.is_at.ensures.looks
