use Rattle.gitconf_body.specs.Refusals.{value_refusal}
use Rattle.gitconf_state.specs.Edits.{SetValue}
use Rattle.gix_config.specs.SectionEditors.{edited, editor, number_of}
use Rattle.gix_config_laws.specs.Steps.{raw}
use Rattle.gix_config_laws.proofs.ReadsBack.{is_step}
use Rattle.gix_config_laws.proofs.steps.sections.set.Goals as goal

pub returns : goal.returns
returns c =
    let section = c.args.section.now in
    let edit = SetValue (number_of section) (editor section) c.args.value_name.now c.args.value.now in
    is_step raw value_refusal edit c.set.result (edited section) (edited c.set.new.self) c.set.ensures.answer c.set.ensures.done
