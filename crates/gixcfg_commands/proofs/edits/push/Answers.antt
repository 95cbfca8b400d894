use Rattle.std.proofs.Common.{◌∙◌, Err, ap, subst, sym, Some}
use Rattle.gitconf_state.specs.Edits.{PushAfterLast}
use Rattle.gix_config.specs.SectionEditors.{edited, editor, number_of}
use Rattle.gixcfg_core.specs.Troubles.{trouble_of_number}
use Rattle.gixcfg_commands.specs.Setting.{IsPushed}
use Rattle.gixcfg_commands.proofs.SettingLemmas.{not_pushed_so, pushed_so}
use Rattle.gixcfg_commands.proofs.edits.push.Goals as goal

pub returns-in-Ok-clause-done : goal.returns-in-Ok-clause-done
returns-in-Ok-clause-done c =
    let e = c.args.section.now in
    pushed_so (number_of e) (editor e) c.args.name.now c.args.value.now c.push_after_last.result (edited e) (edited c.push_after_last.new.self) c.push_after_last.ensures.done c.in-Ok.is

pub returns-in-Err-clause-done : goal.returns-in-Err-clause-done
returns-in-Err-clause-done c =
    let e = c.args.section.now in
    subst (λ trouble. IsPushed (PushAfterLast (number_of e) (editor e) c.args.name.now (Some c.args.value.now)) (Err trouble) (edited e) (edited c.push_after_last.new.self))
    (sym (c.of_number.ensures ∙ ap trouble_of_number c.number.ensures))
    (not_pushed_so (number_of e) (editor e) c.args.name.now c.args.value.now c.push_after_last.result c.in-Err.refusal (edited e) (edited c.push_after_last.new.self) c.push_after_last.ensures.done c.in-Err.is)
