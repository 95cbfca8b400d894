use Rattle.gitconf_body.specs.Blanks.{given_editor}
use Rattle.gitconf_body.specs.Refusals.{value_refusal}
use Rattle.gitconf_state.specs.Edits.{SetValue}
use Rattle.gix_config.specs.SectionEditors.{editor, number_of}
use Rattle.gix_config.proofs.Numbers.{answered, set_again}
use Rattle.gix_config.proofs.file.section_mut.SectionMut.set.Goals as goal

pub returns-in-Ok-Some-clause-done : goal.returns-in-Ok-Some-clause-done
returns-in-Ok-Some-clause-done c =
    let given = given_editor c.editor-editor.result in
    let key = c.as_bytes.result.now in
    rw (← c.file.view_is) (set_again value_refusal (number_of c.args.self.now) c.args.value.now _ c.file.inside.store _ given (editor c.args.self.now) key c.args.value_name.now c.editor-editor.ensures.told c.as_bytes.ensures.value
    (answered value_refusal (SetValue (number_of c.args.self.now) given key c.args.value.now) _ _ c.file.inside.store _ c.in-Ok-Some.ensures.done))

pub returns-in-Ok-None-clause-done : goal.returns-in-Ok-None-clause-done
returns-in-Ok-None-clause-done c =
    let given = given_editor c.editor-editor.result in
    let key = c.as_bytes.result.now in
    rw (← c.file.view_is) (set_again value_refusal (number_of c.args.self.now) c.args.value.now _ c.file.inside.store _ given (editor c.args.self.now) key c.args.value_name.now c.editor-editor.ensures.told c.as_bytes.ensures.value
    (answered value_refusal (SetValue (number_of c.args.self.now) given key c.args.value.now) _ _ c.file.inside.store _ c.in-Ok-None.ensures.done))
