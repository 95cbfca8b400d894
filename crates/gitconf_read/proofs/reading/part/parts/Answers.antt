use Rattle.std.proofs.Common.{sym, ◌∙◌, eq-eqb}
use Rattle.std.proofs.lemmas.Bool.{ne_eqb}
use Rattle.std.proofs.lemmas.Result.{err_from_is_err_and}
use Rattle.gitconf_read.proofs.EventGaps.{gap_go}
use Rattle.gitconf_read.proofs.Skips.{text_from-part, text_from-fault, gives_all}
use Rattle.gitconf_read.proofs.reading.part.parts.Goals as goal

pub returns-in_err-end : goal.returns-in_err-end
returns-in_err-end c =
    let p = err_from_is_err_and c.from_residual.result c.from_residual.ensures.1 in
    rw (p.1, p.2) (gives_all _ _ _ _ c.in_err-end.ensures.gives (λ f e. sym c.loop-at.invariant.1 ∙ text_from-fault _ _ _ _ f c.loop-at-test.true e))

pub loop-at-preserved-then-input-at-eq91 : goal.loop-at-preserved-then-input-at-eq91
loop-at-preserved-then-input-at-eq91 c =
    let goes_on = text_from-part _ _ _ _ _ _ c.loop-at-test.true c.in_ok-end.ensures.behind c.in_ok-end.ensures.gives in
    let gap = gap_go _ _ _ _ _ _ _ _ c.gap_ends-line_end.ensures.line_ends c.in_ok-push_line_ends.ensures.events c.gap_ends-line_end.ensures.blanks c.in_ok-push_blanks.ensures.events in
    (c.gap_ends-line_end.ensures.inside, sym (rw (eq-eqb _ 91 c.if-input-at-eq91.true) at (goes_on ∙ gap)) ∙ c.loop-at.invariant.1)

pub loop-at-preserved : goal.loop-at-preserved
loop-at-preserved c =
    let goes_on = text_from-part _ _ _ _ _ _ c.loop-at-test.true c.in_ok-end.ensures.behind c.in_ok-end.ensures.gives in
    let gap = gap_go _ _ _ _ _ _ _ _ c.gap_ends-line_end.ensures.line_ends c.in_ok-push_line_ends.ensures.events c.gap_ends-line_end.ensures.blanks c.in_ok-push_blanks.ensures.events in
    (c.gap_ends-line_end.ensures.inside, sym (rw (ne_eqb _ 91 c.if-input-at-eq91.false) at (goes_on ∙ gap)) ∙ c.loop-at.invariant.1)
