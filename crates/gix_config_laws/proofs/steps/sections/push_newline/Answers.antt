use Rattle.std.proofs.Common.{refl}
use Rattle.gitconf_body.specs.Refusals.{span_refusal}
use Rattle.gitconf_state.specs.Edits.{PushLineEnd}
use Rattle.gix_config.specs.SectionEditors.{edited, editor, number_of}
use Rattle.gix_config_laws.proofs.CallSteps.{quiet_step}
use Rattle.gix_config_laws.proofs.steps.sections.push_newline.Goals as goal

pub returns : goal.returns
returns c =
    let section = c.args.section.now in
    let call = c.push_newline in
    quiet_step span_refusal (PushLineEnd (number_of section) (editor section)) call.result (edited section) (edited call.new.self) refl call.ensures.done
