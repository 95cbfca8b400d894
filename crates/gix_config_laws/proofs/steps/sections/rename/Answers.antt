use Rattle.std.proofs.Common.{refl}
use Rattle.std.specs.Prelude.{option_map}
use Rattle.bstr.specs.Owned.{bstring_bytes}
use Rattle.gitconf_body.specs.Refusals.{header_refusal}
use Rattle.gitconf_state.specs.Edits.{Rename}
use Rattle.gix_config.specs.SectionEditors.{edited, number_of}
use Rattle.gix_config_laws.proofs.CallSteps.{quiet_step}
use Rattle.gix_config_laws.proofs.steps.sections.rename.Goals as goal

pub returns : goal.returns
returns c =
    let section = c.args.section.now in
    let call = c.rename in
    quiet_step header_refusal (Rename (number_of section) c.args.name.now (option_map bstring_bytes c.args.subsection_name)) call.result (edited section) (edited call.new.self) refl call.ensures.done
