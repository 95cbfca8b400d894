use Rattle.std.proofs.Common.{◌∙◌, arith, sym}
use Rattle.std.proofs.lemmas.Bool.{not-true}
use Rattle.gitconf_read.proofs.PlainGaps.{gap_there}
use Rattle.gitconf_read.proofs.reading.run.is_plain_gap.Goals as goal

pub returns : goal.returns
returns c = λ none. gap_there _ _ (omega (arith, c.if-at-input.false)) c.if-input-at-ne10.false c.if-input-at-ne9.false (sym c.is_blank.ensures ∙ not-true _ none)
