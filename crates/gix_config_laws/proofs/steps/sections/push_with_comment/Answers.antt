use Rattle.std.proofs.Common.{refl}
use Rattle.std.specs.Option.{option_copied}
use Rattle.std.specs.Prelude.{Some}
use Rattle.gitconf_body.specs.Refusals.{value_refusal}
use Rattle.gitconf_state.specs.Edits.{Push}
use Rattle.gix_config.specs.SectionEditors.{edited, editor, number_of}
use Rattle.gix_config_laws.proofs.CallSteps.{quiet_step}
use Rattle.gix_config_laws.proofs.steps.sections.push_with_comment.Goals as goal

pub returns : goal.returns
returns c =
    let section = c.args.section.now in
    let call = c.push_with_comment in
    quiet_step value_refusal (Push (number_of section) (editor section) c.args.value_name.now (option_copied c.args.value) (Some c.args.comment.now)) call.result (edited section) (edited call.new.self) refl call.ensures.done
