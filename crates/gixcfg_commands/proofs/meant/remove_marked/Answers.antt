use Rattle.std.proofs.Common.{◌≡◌, Err, rules, subst}
use Rattle.std.specs.Prelude.{OnOk}
use Rattle.gitconf_state.specs.Edits.{RemoveMarked, apply}
use Rattle.gix_config.specs.SectionEditors.{edited, editor_at, told}
use Rattle.gix_config.specs.declared.file.section_mut.making.Error.TheVariants.{NonePasses}
use Rattle.gixcfg_commands.proofs.MeantLemmas.{found_number, none_numbered, none_passes, removed_told}
use Rattle.gixcfg_commands.proofs.meant.remove_marked.Goals as goal

pub returns-in-Ok-clause-ok : goal.returns-in-Ok-clause-ok
returns-in-Ok-clause-ok c =
    subst (λ new. OnOk c.remove_from.result (new ≡ apply (RemoveMarked c.args.id c.args.name.now c.args.marks.now) c.args.file.now)) (search rules)
    (removed_told c.args.id c.args.name.now c.args.marks.now c.args.file.now c.in-Ok.editor (edited c.remove_from.new.editor) c.remove_from.result
    (found_number c.args.id c.args.file.now c.in-Ok.editor c.in-Ok.ensures.found) c.in-Ok.ensures.same_state c.remove_from.ensures.ok)

pub returns-in-Err-NonePasses-clause-memory : goal.returns-in-Err-NonePasses-clause-memory
returns-in-Err-NonePasses-clause-memory c = λ stands.
    let none : c.section_mut_by_id.result ≡ Err NonePasses = search rules in
    absurd (none_numbered c.args.id c.args.file.now stands (none_passes told (editor_at c.args.file.now) c.args.id c.args.file.now c.section_mut_by_id.result c.section_mut_by_id.ensures.found none))
