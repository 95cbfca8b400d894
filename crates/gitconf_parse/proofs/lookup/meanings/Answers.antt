use Rattle.std.proofs.Common.{◌≡◌, ◌∙◌, ◌∷◌, ◌++◌, [], None, ap, map, rules, subst, sym}
use Rattle.std.proofs.lemmas.List.{map-append}
use Rattle.std.proofs.lemmas.Result.{err_from_is_err_and}
use Rattle.bstr.specs.Owned.{bstring_bytes}
use Rattle.gitconf_sources.specs.Key.{key_of}
use Rattle.gitconf_parse.proofs.Sought.{AreSought, more_meanings, text_misread, values_found}
use Rattle.gitconf_parse.proofs.lookup.meanings.Goals as goal

pub returns-in_err-met-clause-misread : goal.returns-in_err-met-clause-misread
returns-in_err-met-clause-misread c =
    let p = err_from_is_err_and c.from_residual.result c.from_residual.ensures.1 in
    rw (p.1, p.2) (text_misread _ _ _ _ _ _ c.loop-values.invariant.start c.loop-values.invariant.walk c.in_err-met.ensures.broken)

pub returns-clause-found : goal.returns-clause-found
returns-clause-found c =
    let none : c.in_ok-met.field-0 ≡ None = search rules in
    values_found _ _ _ _ _ _ c.loop-values.invariant (rw none at c.in_ok-met.ensures.read) (rw none at c.in_ok-met.ensures.ended)

pub loop-values-preserved : goal.loop-values-preserved
loop-values-preserved c =
    let values = c.loop-values.values.items in
    let put = ap (map bstring_bytes) c.in_ok-push.ensures.items ∙ map-append bstring_bytes values _ ∙ ap (λ t. map bstring_bytes values ++ t ∷ []) c.in_ok-value.ensures in
    subst (AreSought c.args.input.now (key_of c.args.key.now) c.start_of-cursor.result c.next_met.new.cursor) (sym put)
    (more_meanings _ _ _ _ _ _ c.in-Some.met c.loop-values.invariant (rw c.in-Some.is at c.in_ok-met.ensures.read) c.in_ok-met.ensures.inside)
