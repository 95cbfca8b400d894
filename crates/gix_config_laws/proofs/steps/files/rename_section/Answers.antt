use Rattle.std.proofs.Common.{refl, true}
use Rattle.std.specs.Option.{option_copied}
use Rattle.std.specs.Prelude.{option_map}
use Rattle.bstr.specs.Owned.{bstring_bytes}
use Rattle.gitconf_state.specs.Edits.{RenameAll}
use Rattle.gitconf_store.specs.RenameErrors.{rename_refusal}
use Rattle.gix_config_laws.proofs.CallSteps.{quiet_step}
use Rattle.gix_config_laws.proofs.steps.files.rename_section.Goals as goal

pub returns : goal.returns
returns c =
    let call = c.rename_section in
    let edit = RenameAll c.args.name.now (option_copied c.args.subsection_name) (λ _. true) c.args.new_name.now (option_map bstring_bytes c.args.new_subsection_name) in
    quiet_step rename_refusal edit call.result c.args.file.now call.new.self refl call.ensures.exact
