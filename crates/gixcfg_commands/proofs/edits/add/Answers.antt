use Rattle.std.proofs.Common.{◌∙◌, Err, ap, rules, subst, sym}
use Rattle.gitconf_sources.specs.Key.{key_of}
use Rattle.gix_config.specs.SectionEditors.{edited}
use Rattle.gixcfg_core.specs.Troubles.{trouble_of_number}
use Rattle.gixcfg_commands.specs.Answered.{IsCarriedOut}
use Rattle.gixcfg_commands.specs.Setting.{added, unadded}
use Rattle.gixcfg_commands.proofs.SettingLemmas.{added_so, no_making, not_made_so}
use Rattle.gixcfg_commands.proofs.edits.add.Goals as goal

pub returns-in-Ok : goal.returns-in-Ok
returns-in-Ok c =
    let key = key_of c.args.key in
    subst (λ new. IsCarriedOut (unadded key c.args.value.now c.args.file.now) (added key c.args.value.now) c.push.result c.args.file.now new) (search rules)
    (added_so key c.args.value.now c.args.file.now c.in-Ok.section (edited c.push.new.section) c.push.result c.in-Ok.ensures.exact.ok (no_making _ c.in-Ok.section c.in-Ok.ensures.exact.told) c.push.ensures.done)

pub returns-in-Err : goal.returns-in-Err
returns-in-Err c =
    let key = key_of c.args.key in
    subst (λ trouble. IsCarriedOut (unadded key c.args.value.now c.args.file.now) (added key c.args.value.now) (Err trouble) c.args.file.now c.args.file.now)
    (sym (c.of_number.ensures ∙ ap trouble_of_number c.number.ensures))
    (not_made_so _ key c.args.value.now c.args.file.now c.args.file.now c.in-Err.refusal c.in-Err.ensures.exact.told)
