use Rattle.std.proofs.Common.{◌+◌, ℕ, List, Some, length, subst}
use Rattle.gitconf_text.specs.Part.{Item}
use Rattle.gitconf_body.specs.ValuesAt.{instead_of, written_put}
use Rattle.gitconf_body.specs.Blanks.{given_editor}
use Rattle.gitconf_body.specs.Growth.{UsedGrows}
use Rattle.gitconf_body.specs.Puts.{assigned_bytes}
use Rattle.gitconf_body.specs.Refusals.{span_refusal}
use Rattle.gitconf_body.proofs.Puts.{written_is}
use Rattle.gitconf_state.specs.Edits.{WriteAt}
use Rattle.gitconf_state.specs.Editors.{written_at}
use Rattle.gitconf_state.proofs.Edits.EditorItems.{written_at_is}
use Rattle.gitconf_store.specs.Edited.{bytes_in}
use Rattle.gitconf_store.proofs.Edits.Numbered.{edited_stands, entry_written, grows_in, items_keep_numbers, same_bytes_in}
use Rattle.gitconf_store.proofs.store.Store.write_entry_at.Goals as goal

pub edit_items-requires-clause-keeps : goal.edit_items-requires-clause-keeps
edit_items-requires-clause-keeps c = λ items all. written_at_is (given_editor c.args.editor.now) c.args.place (instead_of c.args.in_place_of) c.args.key.now c.args.value.now items c.requires.editor c.requires.key all

pub returns-clause-done : goal.returns-clause-done
returns-clause-done c =
    let after = c.in_ok-edit_items.ensures in
    let result = c.in_ok-edit_items.field-0 in
    let put : List Item → ℕ = λ items. length c.args.key.now + assigned_bytes (given_editor c.args.editor.now).spacing (Some c.args.value.now) in
    entry_written (WriteAt c.args.id (given_editor c.args.editor.now) c.args.place (instead_of c.args.in_place_of) c.args.key.now c.args.value.now) c.args.key.now result (bytes_in c.args.id put c.args.self.now)
    c.args.self.now c.edit_items.new.self c.requires.key after.ok after.err
    (subst (λ n. UsedGrows result n c.args.self.now.used c.edit_items.new.self.used)
    (same_bytes_in c.args.id (λ items. written_put c.args.editor.now c.args.key.now c.args.value.now) put c.args.self.now (λ items. written_is c.args.editor.now c.args.key.now c.args.value.now c.requires.puts))
    (grows_in c.args.id (λ items. written_put c.args.editor.now c.args.key.now c.args.value.now) result c.args.self.now c.edit_items.new.self after.room after.grows after.missing after.done))

pub returns-clause-stands : goal.returns-clause-stands
returns-clause-stands c =
    edited_stands span_refusal (WriteAt c.args.id (given_editor c.args.editor.now) c.args.place (instead_of c.args.in_place_of) c.args.key.now c.args.value.now) _ c.args.self.now c.edit_items.new.self c.args.id
    (items_keep_numbers c.args.id c.args.id (written_at (given_editor c.args.editor.now) c.args.place (instead_of c.args.in_place_of) c.args.key.now c.args.value.now) c.args.self.now) (returns-clause-done c)
