use Rattle.std.proofs.Common.{◌∙◌, arith, sym}
use Rattle.gitconf_read.proofs.Fours.{empty_run, four_on, one_on, three_on, two_on}
use Rattle.gitconf_read.proofs.reading.run.long_run_end.Goals as goal

pub returns-then-not-goes_on-clause-end : goal.returns-then-not-goes_on-clause-end
returns-then-not-goes_on-clause-end c = sym (empty_run _ _ _ (sym c.goes_on.ensures ∙ c.if-not-goes_on.true)) ∙ c.loop-i.invariant.2

pub returns-then-not-goes_on-2-clause-end : goal.returns-then-not-goes_on-2-clause-end
returns-then-not-goes_on-2-clause-end c = sym (empty_run _ _ _ (sym c.goes_on-in-loop-i.ensures ∙ c.if-not-goes_on-2.true)) ∙ one_on _ _ _ c.loop-i-test.true (sym c.goes_on.ensures ∙ c.if-not-goes_on.false) ∙ c.loop-i.invariant.2

pub returns-then-not-goes_on-3-clause-end : goal.returns-then-not-goes_on-3-clause-end
returns-then-not-goes_on-3-clause-end c = sym (empty_run _ _ _ (sym c.goes_on-in-loop-i-2.ensures ∙ c.if-not-goes_on-3.true)) ∙ two_on _ _ _ c.loop-i-test.true (sym c.goes_on.ensures ∙ c.if-not-goes_on.false) (sym c.goes_on-in-loop-i.ensures ∙ c.if-not-goes_on-2.false) ∙ c.loop-i.invariant.2

pub returns-then-not-goes_on-4-clause-end : goal.returns-then-not-goes_on-4-clause-end
returns-then-not-goes_on-4-clause-end c = sym (empty_run _ _ _ (sym c.goes_on-in-loop-i-3.ensures ∙ c.if-not-goes_on-4.true)) ∙ three_on _ _ _ c.loop-i-test.true (sym c.goes_on.ensures ∙ c.if-not-goes_on.false) (sym c.goes_on-in-loop-i.ensures ∙ c.if-not-goes_on-2.false) (sym c.goes_on-in-loop-i-2.ensures ∙ c.if-not-goes_on-3.false) ∙ c.loop-i.invariant.2

pub loop-i-preserved : goal.loop-i-preserved
loop-i-preserved c = (omega arith, omega arith, four_on _ _ _ c.loop-i-test.true (sym c.goes_on.ensures ∙ c.if-not-goes_on.false) (sym c.goes_on-in-loop-i.ensures ∙ c.if-not-goes_on-2.false) (sym c.goes_on-in-loop-i-2.ensures ∙ c.if-not-goes_on-3.false) (sym c.goes_on-in-loop-i-3.ensures ∙ c.if-not-goes_on-4.false) ∙ c.loop-i.invariant.2)
