use Rattle.std.proofs.Common.{rules, ◌≡◌, true, refl}
use Rattle.std.specs.Option.{option_copied}
use Rattle.gitconf_text.specs.Names.{is_value_name}
use Rattle.gitconf_state.specs.Edits.{SetValue}
use Rattle.gitconf_state.specs.Editors.{value_set}
use Rattle.gitconf_state.proofs.Edits.EditorItems.{value_set_is}
use Rattle.gitconf_body.specs.Blanks.{given_editor}
use Rattle.gitconf_body.specs.Editors.{set_put}
use Rattle.gitconf_body.specs.Puts.{value_set_bytes}
use Rattle.gitconf_body.specs.Refusals.{value_refusal}
use Rattle.gitconf_body.proofs.Puts.{set_is}
use Rattle.gitconf_store.proofs.Edits.Numbered.{edited_stands, entry_put, items_keep_numbers}
use Rattle.gitconf_store.proofs.store.Store.set_entry.Goals as goal

pub edit_items-requires-clause-keeps : goal.edit_items-requires-clause-keeps
edit_items-requires-clause-keeps c =
    let named : is_value_name c.args.key.now ≡ true = search rules in
    λ items all. value_set_is (given_editor c.args.editor.now) c.args.key.now c.args.value.now items c.requires.editor named all

pub returns-clause-done : goal.returns-clause-done
returns-clause-done c =
    let named : is_value_name c.args.key.now ≡ true = search rules in
    let after = c.in_ok-edit_items.ensures in
    entry_put value_refusal (SetValue c.args.id (given_editor c.args.editor.now) c.args.key.now c.args.value.now) c.args.id c.args.key.now c.in_ok-edit_items.field-0 c.in_ok-old.old c.in_ok-old.old
    (set_put c.args.editor.now c.args.key.now c.args.value.now)
    (value_set_bytes (given_editor c.args.editor.now) c.args.key.now c.args.value.now)
    c.args.self.now c.edit_items.new.self c.in_ok-old.was named (λ items. set_is c.args.editor.now c.args.key.now c.args.value.now items c.requires.given c.requires.puts) after.ok after.room after.grows after.missing after.done

pub returns-clause-stands : goal.returns-clause-stands
returns-clause-stands c =
    edited_stands value_refusal (SetValue c.args.id (given_editor c.args.editor.now) c.args.key.now c.args.value.now) _ c.args.self.now c.edit_items.new.self c.args.id
    (items_keep_numbers c.args.id c.args.id (value_set (given_editor c.args.editor.now) c.args.key.now c.args.value.now) c.args.self.now) (returns-clause-done c)
