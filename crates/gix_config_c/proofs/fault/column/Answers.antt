use Rattle.std.proofs.Common.{arith}
use Rattle.gix_config_c.proofs.LineStart.{column_from}
use Rattle.gix_config_c.proofs.fault.column.Goals as goal
use Rattle.gix_config_c.proofs.fault.column.Goals.{then-loop-start-test+else-before-start-ne10, else-loop-start-test}

pub returns : goal.returns
returns c = column_from _ _ c.loop-start.invariant.0 c.loop-start.invariant.1 (λ more. elim c.loop-start-test.branch [
  | then-loop-start-test+else-before-start-ne10 w ↦ w.if-before-start-ne10.false
  | else-loop-start-test w ↦ absurd (omega (arith, w.loop-start-test.false))
])
