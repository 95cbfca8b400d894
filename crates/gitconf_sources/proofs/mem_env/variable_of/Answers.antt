use Rattle.std.proofs.Common.{Some, None, ◌∙◌}
use Rattle.std.proofs.lemmas.Result.{IfOk-weaker}
use Rattle.gitconf_sources.specs.Reports.{NotSet, variable_report}
use Rattle.gitconf_sources.proofs.InMemoryLemmas.{told_at}
use Rattle.gitconf_sources.proofs.mem_env.variable_of.Goals as goal

pub returns-in-Some : goal.returns-in-Some
returns-in-Some c =
    IfOk-weaker c.try_clone.result _ _
    (λ copy is. is ∙ told_at variable_report NotSet c.args.name.now c.args.variables.now.entries (Some c.in-Some.variable.now) c.in-Some.ensures.value)
    c.try_clone.ensures

pub returns-in-None : goal.returns-in-None
returns-in-None c = told_at variable_report NotSet c.args.name.now c.args.variables.now.entries None c.in-None.ensures.value
