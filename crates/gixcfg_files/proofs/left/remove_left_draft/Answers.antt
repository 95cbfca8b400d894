use Rattle.gixcfg_files.proofs.Acting.{hold_grows, grows_on}
use Rattle.gixcfg_files.proofs.left.remove_left_draft.Goals as goal

pub returns-then-remove_held : goal.returns-then-remove_held
returns-then-remove_held g c = grows_on _ _ _ (grows_on _ _ _ c.sight_of.ensures.grows (hold_grows _ _ _ c.hold.result c.hold.ensures)) c.remove_held.ensures

pub returns-in-Ok-true : goal.returns-in-Ok-true
returns-in-Ok-true g c = grows_on _ _ _ (grows_on _ _ _ c.sight_of.ensures.grows (hold_grows _ _ _ c.hold.result c.hold.ensures)) c.remove_held.ensures
