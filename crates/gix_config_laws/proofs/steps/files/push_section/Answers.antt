use Rattle.std.proofs.Common.{ℕ, ap, rules}
use Rattle.gitconf_body.specs.Refusals.{span_refusal}
use Rattle.gitconf_state.specs.Editors.{Editor}
use Rattle.gitconf_state.specs.Edits.{Number, PushSection}
use Rattle.gix_config_laws.proofs.CallSteps.{number_step, refused_step}
use Rattle.gix_config_laws.proofs.steps.files.push_section.Goals as goal

pub returns-in-Ok : goal.returns-in-Ok
returns-in-Ok c =
    let is = c.in-Ok.ensures in
    number_step span_refusal (PushSection c.args.section) c.in-Ok.section c.id.result c.args.file.now _ is.told (ap (λ (p : ℕ × Editor). Number p.0) is.editor) is.put c.id.ensures (search rules)

pub returns-in-Err : goal.returns-in-Err
returns-in-Err c = refused_step span_refusal (PushSection c.args.section) c.in-Err.e c.args.file.now _ c.in-Err.ensures.told (search rules)
