use Rattle.std.proofs.Common.{◌≡◌, None, rules}
use Rattle.std.specs.Prelude.{if◌then◌else◌}
use Rattle.std.proofs.lemmas.Result.{err_from_is_err_and}
use Rattle.gitconf_parse.proofs.Sought.{more_sought, text_misread, value_found}
use Rattle.gitconf_parse.proofs.lookup.deciding_place.Goals as goal
use Rattle.gitconf_parse.proofs.lookup.deciding_place.Goals.{then-met, else-met}

pub returns-in_err-met-clause-misread : goal.returns-in_err-met-clause-misread
returns-in_err-met-clause-misread c =
    let p = err_from_is_err_and c.from_residual.result c.from_residual.ensures.1 in
    rw (p.1, p.2) (text_misread _ _ _ _ _ _ c.loop-met.invariant.start c.loop-met.invariant.walk c.in_err-met.ensures.broken)

pub loop-met-preserved : goal.loop-met-preserved
loop-met-preserved c =
    let before_is : c.if-met.before ≡ (if c.in-Some.met.anew then c.loop-met.now else c.loop-met.before)
    = elim c.if-met.branch [ then-met w ↦ rw w.if-met.true w.before-is | else-met w ↦ rw w.if-met.false w.before-is ] in
    rw (c.deciding-now.ensures, before_is)
    (more_sought _ _ _ _ _ _ _ c.in-Some.met c.loop-met.invariant (rw c.in-Some.is at c.in_ok-met.ensures.read) c.in_ok-met.ensures.inside (rw c.in-Some.is at c.in_ok-met.ensures.value))

pub returns-clause-found : goal.returns-clause-found
returns-clause-found c =
    let none : c.in_ok-met.field-0 ≡ None = search rules in
    value_found _ _ _ _ _ _ _ c.loop-met.invariant (rw none at c.in_ok-met.ensures.read) (rw none at c.in_ok-met.ensures.ended)
