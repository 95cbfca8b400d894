use Rattle.std.proofs.Common.{arith}
use Rattle.std.proofs.lemmas.Bool.{eqb-true}
use Rattle.gitconf_read.proofs.PlainGaps.{header_gap_there}
use Rattle.gitconf_read.proofs.reading.run.is_header_gap.Goals as goal

pub returns : goal.returns
returns c = λ bracket. header_gap_there _ _ (omega (arith, c.if-at-input.false)) c.if-input-at-ne10.false (eqb-true _ 91 bracket)
