use Rattle.std.proofs.Common.{true}
use Rattle.gitconf_sources.specs.Key.{the_key}
use Rattle.gitconf_store.specs.SetErrors.{set_refusal}
use Rattle.gix_config.specs.Keys.{set_by_key}
use Rattle.gix_config_laws.specs.Steps.{raw}
use Rattle.gix_config_laws.proofs.ReadsBack.{is_step}
use Rattle.gix_config_laws.proofs.steps.files.set_raw_value.Goals as goal

pub returns : goal.returns
returns g c =
    let call = c.set_raw_value in
    is_step raw set_refusal (set_by_key (the_key (g.K.AsKey.key c.args.key)) (λ _. true) c.args.value.now) call.result c.args.file.now call.new.self call.ensures.answer call.ensures.exact
