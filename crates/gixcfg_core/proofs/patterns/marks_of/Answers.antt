use Rattle.std.proofs.Common.{Some, None, refl, rules, subst, sym}
use Rattle.std.proofs.lemmas.Result.{IfOk-weaker}
use Rattle.gixcfg_core.specs.Patterns.{is_text, passes, Means}
use Rattle.gixcfg_core.proofs.Negated.{means_as_told}
use Rattle.gixcfg_core.proofs.patterns.marks_of.Goals as goal

pub returns-in_ok-equal-in-Any-clause-marks : goal.returns-in_ok-equal-in-Any-clause-marks
returns-in_ok-equal-in-Any-clause-marks c = (is_text None, subst (λ meant. Means meant (is_text None)) (sym c.in-Any.is) refl, c.in_ok-equal-in-Any.ensures)

pub returns-in_ok-equal-in-Equal-clause-marks : goal.returns-in_ok-equal-in-Equal-clause-marks
returns-in_ok-equal-in-Equal-clause-marks c =
    (is_text (Some c.in-Equal.text.now), subst (λ meant. Means meant (is_text (Some c.in-Equal.text.now))) (sym c.in-Equal.is) refl, search rules)

pub returns-in-Matching-clause-marks : goal.returns-in-Matching-clause-marks
returns-in-Matching-clause-marks c = IfOk-weaker c.matching.result _ _
    (λ marks is. (
      passes is.0 c.pattern_of-is_wanted.result.1,
      subst (λ meant. Means meant (passes is.0 c.pattern_of-is_wanted.result.1)) (sym c.in-Matching.is)
          (means_as_told c.in-Matching.pattern is.0 _ _ c.pattern_of-is_wanted.ensures.pattern c.pattern_of-is_wanted.ensures.wanted is.1),
      is.2,
    )) c.matching.ensures.marks
