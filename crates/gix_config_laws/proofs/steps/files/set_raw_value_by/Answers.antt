use Rattle.std.proofs.Common.{true}
use Rattle.std.specs.Option.{option_copied}
use Rattle.gitconf_state.specs.Edits.{SetRawValue}
use Rattle.gitconf_store.specs.SetErrors.{set_refusal}
use Rattle.gix_config_laws.specs.Steps.{raw}
use Rattle.gix_config_laws.proofs.ReadsBack.{is_step}
use Rattle.gix_config_laws.proofs.steps.files.set_raw_value_by.Goals as goal

pub returns : goal.returns
returns c =
    let call = c.set_raw_value_by in
    let edit = SetRawValue c.args.section_name.now (option_copied c.args.subsection_name) c.args.value_name.now (λ _. true) c.args.value.now in
    is_step raw set_refusal edit call.result c.args.file.now call.new.self call.ensures.answer call.ensures.exact
