use Rattle.std.proofs.Common.{◌∙◌, arith, sym}
use Rattle.std.proofs.lemmas.Bool.{not-true}
use Rattle.gitconf_read.proofs.PlainGaps.{sign_there}
use Rattle.gitconf_read.proofs.reading.entry.is_plain_sign.Goals as goal

pub returns : goal.returns
returns c = λ none. sign_there _ _ (omega (arith, c.if-at-input.false)) c.if-input-at-ne32.false c.if-input-at-ne61.false c.if-input-at-ne32-2.false (sym c.is_blank.ensures ∙ not-true _ none)
