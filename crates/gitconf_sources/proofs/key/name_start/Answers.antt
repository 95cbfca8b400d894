use Rattle.std.proofs.Common.{arith}
use Rattle.gitconf_sources.proofs.KeyLemmas.{behind_is}
use Rattle.gitconf_sources.proofs.key.name_start.Goals as goal

pub returns-else-input-behind-ne46-clause-place : goal.returns-else-input-behind-ne46-clause-place
returns-else-input-behind-ne46-clause-place c = behind_is _ _ c.loop-behind.invariant.0 c.loop-behind.invariant.1 (λ h. c.if-input-behind-ne46.false)

pub returns-after-loop-behind-clause-place : goal.returns-after-loop-behind-clause-place
returns-after-loop-behind-clause-place c = behind_is _ _ c.loop-behind.invariant.0 c.loop-behind.invariant.1 (λ h. absurd (omega arith))
