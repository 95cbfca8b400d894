use Rattle.std.proofs.Common.{refl}
use Rattle.gitconf_body.specs.Refusals.{span_refusal}
use Rattle.gitconf_state.specs.Edits.{Append}
use Rattle.gix_config_laws.proofs.CallSteps.{quiet_step}
use Rattle.gix_config_laws.proofs.steps.files.append.Goals as goal

pub returns : goal.returns
returns c = quiet_step span_refusal (Append c.args.other) c.append.result c.args.file.now c.append.new.self refl c.append.ensures
