use Rattle.std.proofs.Common.{rules, ◌≡◌, Ok, Err, subst, string_bytes}
use Rattle.std.specs.Prelude.{IfSome, codes}
use Rattle.gitconf_sources.specs.Reports.{HasText, variable_report}
use Rattle.gitconf_loaders.specs.Refused.{BadCount}
use Rattle.gitconf_loaders.specs.Variables.{IsCountOf}
use Rattle.gitconf_loaders.proofs.Asked.{a_count, answered, no_count}
use Rattle.gitconf_loaders.proofs.variables.count.Goals as goal

pub returns-in-Ok-clause-count : goal.returns-in-Ok-clause-count
returns-in-Ok-clause-count g c =
    let variables = g.E.Env.variables c.args.env.now in
    let text = string_bytes c.in-Text.input in
    let at : c.deref.result.now ≡ text = search rules in
    let told = subst (λ v. IfSome variables (λ var. variable_report v ≡ var (codes "GIT_CONFIG_COUNT"))) c.in-Text.is c.in_ok-input.ensures.told in
    answered variables (codes "GIT_CONFIG_COUNT") IsCountOf (HasText text) (Ok c.in-Ok.count) told
    (subst (λ t. IsCountOf (HasText t) (Ok c.in-Ok.count)) at (a_count c.deref.result.now c.in-Ok.count c.parse.result c.parse.ensures.value.0 c.in-Ok.is))

pub returns-in-Err-clause-count : goal.returns-in-Err-clause-count
returns-in-Err-clause-count g c =
    let variables = g.E.Env.variables c.args.env.now in
    let text = string_bytes c.in-Text.input in
    let at : c.deref.result.now ≡ text = search rules in
    let told = subst (λ v. IfSome variables (λ var. variable_report v ≡ var (codes "GIT_CONFIG_COUNT"))) c.in-Text.is c.in_ok-input.ensures.told in
    answered variables (codes "GIT_CONFIG_COUNT") IsCountOf (HasText text) (Err (BadCount text)) told
    (subst (λ t. IsCountOf (HasText t) (Err (BadCount t))) at (no_count c.deref.result.now c.in-Err.field-0 c.parse.result c.parse.ensures.value.0 c.in-Err.is))
