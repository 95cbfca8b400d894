use Rattle.std.proofs.Common.{◌∙◌, ap, subst, sym}
use Rattle.gixcfg_core.specs.Troubles.{trouble_of_number}
use Rattle.gixcfg_commands.specs.Setting.{IsUnwritten}
use Rattle.gixcfg_commands.proofs.SettingLemmas.{not_written_so, written_so}
use Rattle.gixcfg_commands.proofs.edits.write_at.Goals as goal

pub returns-in-Ok-clause-done : goal.returns-in-Ok-clause-done
returns-in-Ok-clause-done c = written_so c.args.editor.now c.args.at c.args.value.now c.set_at.result _ c.set_at.ensures.done c.in-Ok.is

pub returns-in-Err-clause-refused : goal.returns-in-Err-clause-refused
returns-in-Err-clause-refused c =
    subst IsUnwritten (sym (c.of_number.ensures ∙ ap trouble_of_number c.number.ensures)) (not_written_so c.args.editor.now c.args.at c.args.value.now c.set_at.result c.in-Err.refusal _ c.set_at.ensures.done c.in-Err.is)
