use Rattle.std.proofs.Common.{refl}
use Rattle.gitconf_body.specs.Refusals.{span_refusal}
use Rattle.gix_config.specs.ValueEditors.{edited, writing}
use Rattle.gix_config_laws.proofs.CallSteps.{quiet_step}
use Rattle.gix_config_laws.proofs.steps.values.set.Goals as goal

pub returns : goal.returns
returns c =
    let editor = c.args.editor.now in
    quiet_step span_refusal (writing editor c.args.value.now) c.set.result (edited editor) (edited c.set.new.self) refl c.set.ensures.done
