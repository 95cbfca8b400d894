use Rattle.std.proofs.Common.{IfOk, rules, subst}
use Rattle.gix_config.specs.SectionEditors.{edited}
use Rattle.gixcfg_commands.specs.Setting.{IsSetIn}
use Rattle.gixcfg_commands.proofs.SettingLemmas.{set_as_told}
use Rattle.gixcfg_commands.proofs.edits.set_last.Goals as goal

pub returns-in-Ok-clause-done : goal.returns-in-Ok-clause-done
returns-in-Ok-clause-done c =
    subst (λ new. IfOk c.set_value.result (λ _. IsSetIn c.args.id c.args.name.now c.args.value.now c.args.file.now new)) (search rules)
    (set_as_told c.args.id c.args.name.now c.args.value.now c.args.file.now c.in-Ok.section (edited c.set_value.new.section) c.set_value.result c.in-Ok.ensures.found c.in-Ok.ensures.same_state
    c.set_value.ensures.done)
