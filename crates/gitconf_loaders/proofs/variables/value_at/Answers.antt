use Rattle.std.proofs.Common.{rules, ◌≡◌, Ok, Some, refl, subst, string_bytes}
use Rattle.std.specs.Prelude.{IfSome}
use Rattle.gitconf_sources.specs.Reports.{HasText, variable_report}
use Rattle.gitconf_loaders.specs.Variables.{reported_value, value_variable}
use Rattle.gitconf_loaders.proofs.Asked.{answered}
use Rattle.gitconf_loaders.proofs.variables.value_at.Goals as goal

pub returns-in-Text-clause-value : goal.returns-in-Text-clause-value
returns-in-Text-clause-value g c =
    let variables = g.E.Env.variables c.args.env.now in
    let name = value_variable c.args.index in
    let at : c.deref.result.now ≡ name = search rules in
    let told = subst (λ v. IfSome variables (λ var. variable_report v ≡ var name)) c.in-Text.is (subst (λ n. IfSome variables (λ var. variable_report c.in_ok-value.field-0 ≡ var n)) at c.in_ok-value.ensures.told) in
    answered variables name (λ told r. r ≡ reported_value c.args.index told) (HasText (string_bytes c.in-Text.value)) (Ok (Some (string_bytes c.in-Text.value))) told refl
