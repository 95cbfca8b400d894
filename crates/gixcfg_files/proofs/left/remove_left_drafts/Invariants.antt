use Rattle.gixcfg_files.specs.Acts.{Grows}
use Rattle.gixcfg_files.proofs.left.remove_left_drafts.Given as goal

abbrev pub invariant-loop-path : goal.invariant-loop-path
invariant-loop-path g l = Grows (g.D.EditCalls.told l.fn.calls) (g.D.EditCalls.told l.calls)
