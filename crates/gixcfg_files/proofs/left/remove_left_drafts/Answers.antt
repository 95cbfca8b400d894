use Rattle.std.proofs.Common.{refl}
use Rattle.gixcfg_files.proofs.Acting.{grows_on, same_grows}
use Rattle.gixcfg_files.proofs.left.remove_left_drafts.Goals as goal

pub loop-path-init : goal.loop-path-init
loop-path-init g c = same_grows _ _ refl

pub loop-path-preserved : goal.loop-path-preserved
loop-path-preserved g c = grows_on _ _ _ c.loop-path.invariant c.remove_left_draft.ensures
