use Rattle.std.proofs.Common.{ℕ, ap, rules}
use Rattle.std.specs.Prelude.{option_map}
use Rattle.bstr.specs.Owned.{bstring_bytes}
use Rattle.gitconf_body.specs.Refusals.{header_refusal}
use Rattle.gitconf_state.specs.Editors.{Editor}
use Rattle.gitconf_state.specs.Edits.{NewSection, Number}
use Rattle.gix_config_laws.proofs.CallSteps.{number_step, refused_step}
use Rattle.gix_config_laws.proofs.steps.files.new_section.Goals as goal

pub returns-in-Ok : goal.returns-in-Ok
returns-in-Ok c =
    let edit = NewSection c.args.name.now (option_map bstring_bytes c.args.subsection_name) in
    let is = c.in-Ok.ensures in
    number_step header_refusal edit c.in-Ok.section c.id.result c.args.file.now _ is.told (ap (λ (p : ℕ × Editor). Number p.0) is.editor) is.made c.id.ensures (search rules)

pub returns-in-Err : goal.returns-in-Err
returns-in-Err c =
    let edit = NewSection c.args.name.now (option_map bstring_bytes c.args.subsection_name) in
    refused_step header_refusal edit c.in-Err.e c.args.file.now _ c.in-Err.ensures.told (search rules)
