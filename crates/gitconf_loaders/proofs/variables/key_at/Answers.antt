use Rattle.std.proofs.Common.{rules, ◌≡◌, Ok, refl, subst, string_bytes}
use Rattle.std.specs.Prelude.{IfSome}
use Rattle.gitconf_sources.specs.Reports.{HasText, variable_report}
use Rattle.gitconf_loaders.specs.Variables.{key_variable, reported_key}
use Rattle.gitconf_loaders.proofs.Asked.{answered}
use Rattle.gitconf_loaders.proofs.variables.key_at.Goals as goal

pub returns-in-Text-clause-key : goal.returns-in-Text-clause-key
returns-in-Text-clause-key g c =
    let variables = g.E.Env.variables c.args.env.now in
    let name = key_variable c.args.index in
    let at : c.deref.result.now ≡ name = search rules in
    let told = subst (λ v. IfSome variables (λ var. variable_report v ≡ var name)) c.in-Text.is (subst (λ n. IfSome variables (λ var. variable_report c.in_ok-key.field-0 ≡ var n)) at c.in_ok-key.ensures.told) in
    answered variables name (λ told r. r ≡ reported_key c.args.index told) (HasText (string_bytes c.in-Text.key)) (Ok (string_bytes c.in-Text.key)) told refl
