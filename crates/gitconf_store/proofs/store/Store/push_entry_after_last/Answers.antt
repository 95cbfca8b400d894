use Rattle.std.proofs.Common.{rules, ◌≡◌, true, refl}
use Rattle.std.specs.Option.{option_copied}
use Rattle.gitconf_text.specs.Names.{is_value_name}
use Rattle.gitconf_state.specs.Edits.{PushAfterLast}
use Rattle.gitconf_state.specs.Editors.{pushed_after_last}
use Rattle.gitconf_state.proofs.Edits.EditorItems.{pushed_after_last_is}
use Rattle.gitconf_body.specs.Blanks.{given_editor}
use Rattle.gitconf_body.specs.Below.{below_put}
use Rattle.gitconf_body.specs.Puts.{after_last_bytes}
use Rattle.gitconf_body.specs.Refusals.{value_refusal}
use Rattle.gitconf_body.proofs.Puts.{below_is}
use Rattle.gitconf_store.proofs.Edits.Numbered.{edited_stands, entry_put, items_keep_numbers}
use Rattle.gitconf_store.proofs.store.Store.push_entry_after_last.Goals as goal

pub edit_items-requires-clause-keeps : goal.edit_items-requires-clause-keeps
edit_items-requires-clause-keeps c =
    let named : is_value_name c.args.key.now ≡ true = search rules in
    λ items all. pushed_after_last_is (given_editor c.args.editor.now) c.args.key.now (option_copied c.args.value) items c.requires.editor named all

pub returns-clause-done : goal.returns-clause-done
returns-clause-done c =
    let named : is_value_name c.args.key.now ≡ true = search rules in
    let after = c.in_ok-edit_items.ensures in
    entry_put value_refusal (PushAfterLast c.args.id (given_editor c.args.editor.now) c.args.key.now (option_copied c.args.value)) c.args.id c.args.key.now c.in_ok-edit_items.field-0 c.in_ok-branch.field-0 tt
    (below_put c.args.editor.now c.args.key.now (option_copied c.args.value))
    (after_last_bytes (given_editor c.args.editor.now) c.args.key.now (option_copied c.args.value))
    c.args.self.now c.edit_items.new.self c.in_ok-branch.was named (λ items. below_is c.args.editor.now c.args.key.now (option_copied c.args.value) items c.requires.given c.requires.puts) after.ok after.room after.grows after.missing after.done

pub returns-clause-stands : goal.returns-clause-stands
returns-clause-stands c =
    edited_stands value_refusal (PushAfterLast c.args.id (given_editor c.args.editor.now) c.args.key.now (option_copied c.args.value)) _ c.args.self.now c.edit_items.new.self c.args.id
    (items_keep_numbers c.args.id c.args.id (pushed_after_last (given_editor c.args.editor.now) c.args.key.now (option_copied c.args.value)) c.args.self.now) (returns-clause-done c)
