use Rattle.std.proofs.Common.{◌∙◌, ap, subst, sym}
use Rattle.gix_config.specs.SectionEditors.{edited, editor, number_of}
use Rattle.gixcfg_core.specs.Troubles.{trouble_of_number}
use Rattle.gixcfg_commands.specs.Setting.{IsUnwritten, setting}
use Rattle.gixcfg_commands.proofs.SettingLemmas.{not_set_so, set_so}
use Rattle.gixcfg_commands.proofs.edits.set_value.Goals as goal

pub returns-in-Ok-clause-done : goal.returns-in-Ok-clause-done
returns-in-Ok-clause-done c = set_so (setting c.args.section.now c.args.name.now c.args.value.now) c.set.result _ (edited c.args.section.now) (edited c.set.new.self) c.set.ensures.done c.in-Ok.is

pub returns-in-Err-clause-refused : goal.returns-in-Err-clause-refused
returns-in-Err-clause-refused c =
    let e = c.args.section.now in
    subst IsUnwritten (sym (c.of_number.ensures ∙ ap trouble_of_number c.number.ensures))
    (not_set_so (number_of e) (editor e) c.args.name.now c.args.value.now c.set.result c.in-Err.refusal (edited e) (edited c.set.new.self) c.set.ensures.done c.in-Err.is)
