use Rattle.std.proofs.Common.{rules, ◌≡◌, true, refl}
use Rattle.std.specs.Option.{option_copied}
use Rattle.gitconf_text.specs.Names.{is_value_name}
use Rattle.gitconf_state.specs.Edits.{Push}
use Rattle.gitconf_state.specs.Editors.{pushed}
use Rattle.gitconf_state.proofs.Edits.EditorItems.{pushed_is}
use Rattle.gitconf_body.specs.Blanks.{given_editor}
use Rattle.gitconf_body.specs.Editors.{line_put}
use Rattle.gitconf_body.specs.Puts.{line_bytes}
use Rattle.gitconf_body.specs.Refusals.{value_refusal}
use Rattle.gitconf_body.proofs.Puts.{line_is}
use Rattle.gitconf_store.proofs.Edits.Numbered.{edited_stands, entry_put, items_keep_numbers}
use Rattle.gitconf_store.proofs.store.Store.push_entry.Goals as goal

pub edit_items-requires-clause-keeps : goal.edit_items-requires-clause-keeps
edit_items-requires-clause-keeps c =
    let named : is_value_name c.args.key.now ≡ true = search rules in
    λ items all. pushed_is (given_editor c.args.editor.now) c.args.key.now (option_copied c.args.value) (option_copied c.args.comment) items c.requires.editor named all

pub returns-clause-done : goal.returns-clause-done
returns-clause-done c =
    let named : is_value_name c.args.key.now ≡ true = search rules in
    let after = c.in_ok-edit_items.ensures in
    entry_put value_refusal (Push c.args.id (given_editor c.args.editor.now) c.args.key.now (option_copied c.args.value) (option_copied c.args.comment)) c.args.id c.args.key.now c.in_ok-edit_items.field-0 c.in_ok-branch.field-0 tt
    (λ items. line_put c.args.editor.now c.args.key.now (option_copied c.args.value) (option_copied c.args.comment))
    (λ items. line_bytes (given_editor c.args.editor.now) c.args.key.now (option_copied c.args.value) (option_copied c.args.comment))
    c.args.self.now c.edit_items.new.self c.in_ok-branch.was named (λ items. line_is c.args.editor.now c.args.key.now (option_copied c.args.value) (option_copied c.args.comment) c.requires.given c.requires.puts) after.ok after.room after.grows after.missing after.done

pub returns-clause-stands : goal.returns-clause-stands
returns-clause-stands c =
    edited_stands value_refusal (Push c.args.id (given_editor c.args.editor.now) c.args.key.now (option_copied c.args.value) (option_copied c.args.comment)) _ c.args.self.now c.edit_items.new.self c.args.id
    (items_keep_numbers c.args.id c.args.id (pushed (given_editor c.args.editor.now) c.args.key.now (option_copied c.args.value) (option_copied c.args.comment)) c.args.self.now) (returns-clause-done c)
