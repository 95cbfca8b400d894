use Rattle.std.proofs.Common.{◌≡◌, true, Err, Ok, rules, subst}
use Rattle.std.proofs.lemmas.Result.{IfOk-weaker}
use Rattle.gitconf_sources.specs.Key.{key_of}
use Rattle.gix_config.specs.Keys.{IsSetByKey}
use Rattle.gixcfg_commands.proofs.CleanEdits.{set_clean}
use Rattle.gixcfg_commands.proofs.PlainResults.{set_named, set_refuses}
use Rattle.gixcfg_commands.proofs.library.set.Goals as goal

pub returns-in-Ok-clause-clean : goal.returns-in-Ok-clause-clean
returns-in-Ok-clause-clean c = λ clean. IfOk-weaker c.check_named.result _ _
    (λ x named. set_clean (key_of c.args.key) c.as_bytes.result.now c.set_raw_value.result _ c.args.file.now c.set_raw_value.new.self c.set_raw_value.ensures.exact c.in-Ok.is named clean) c.check_named.ensures.named

pub returns-in-Ok-clause-told : goal.returns-in-Ok-clause-told
returns-in-Ok-clause-told c =
    let same : c.as_bytes.result.now ≡ c.args.value.now = search rules in
    set_named (key_of c.args.key) c.args.value.now c.in-Ok.old c.args.file.now c.set_raw_value.new.self c.check_named.result
    (subst (λ value. IsSetByKey (key_of c.args.key) (λ _. true) value (Ok c.in-Ok.old) c.args.file.now c.set_raw_value.new.self) same
    (subst (λ made. IsSetByKey (key_of c.args.key) (λ _. true) c.as_bytes.result.now made c.args.file.now c.set_raw_value.new.self) c.in-Ok.is c.set_raw_value.ensures.exact))
    c.check_named.ensures.named c.check_named.ensures.refused

pub returns-in-Err-clause-told : goal.returns-in-Err-clause-told
returns-in-Err-clause-told c =
    let same : c.as_bytes.result.now ≡ c.args.value.now = search rules in
    set_refuses (key_of c.args.key) c.args.value.now c.in-Err.refusal c.by_number.result c.args.file.now c.set_raw_value.new.self
    (subst (λ value. IsSetByKey (key_of c.args.key) (λ _. true) value (Err c.in-Err.refusal) c.args.file.now c.set_raw_value.new.self) same
    (subst (λ made. IsSetByKey (key_of c.args.key) (λ _. true) c.as_bytes.result.now made c.args.file.now c.set_raw_value.new.self) c.in-Err.is c.set_raw_value.ensures.exact))
    c.by_number.ensures.memory c.by_number.ensures.status
