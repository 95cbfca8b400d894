use Rattle.std.proofs.Common.{refl, length}
use Rattle.gitconf_body.specs.Blanks.{given_editor}
use Rattle.gitconf_state.specs.Editors.{line_end_pushed}
use Rattle.gitconf_state.specs.Edits.{PushLineEnd}
use Rattle.gitconf_state.proofs.Edits.EditorItems.{line_end_pushed_is}
use Rattle.gitconf_body.specs.Refusals.{span_refusal}
use Rattle.gitconf_store.proofs.Edits.Numbered.{edited_stands, grows_in, items_keep_numbers, line_end_edited}
use Rattle.gitconf_store.proofs.store.Store.push_newline.Goals as goal

pub edit_items-requires-clause-keeps : goal.edit_items-requires-clause-keeps
edit_items-requires-clause-keeps c = λ items all. line_end_pushed_is (given_editor c.args.editor.now) items c.requires.editor all

pub returns-clause-done : goal.returns-clause-done
returns-clause-done c =
    let after = c.in_ok-edit_items.ensures in
    line_end_edited (PushLineEnd c.args.id (given_editor c.args.editor.now)) c.in_ok-edit_items.field-0 c.args.self.now c.edit_items.new.self refl after.ok after.err
    (grows_in c.args.id (λ items. length (given_editor c.args.editor.now).line_end) c.in_ok-edit_items.field-0 c.args.self.now c.edit_items.new.self after.room after.grows after.missing after.done)

pub returns-clause-stands : goal.returns-clause-stands
returns-clause-stands c =
    edited_stands span_refusal (PushLineEnd c.args.id (given_editor c.args.editor.now)) c.in_ok-edit_items.field-0 c.args.self.now c.edit_items.new.self c.args.id
    (items_keep_numbers c.args.id c.args.id (line_end_pushed (given_editor c.args.editor.now)) c.args.self.now) (returns-clause-done c)
