use Rattle.std.proofs.Common.{rules, ◌≡◌}
use Rattle.std.specs.Prelude.{OnOk}
use Rattle.gitconf_state.specs.Editors.{removed}
use Rattle.gitconf_state.specs.Edits.{Remove, apply}
use Rattle.gitconf_store.proofs.Edits.Numbered.{either_stands, items_keep_numbers}
use Rattle.gitconf_state.specs.State.{is_item}
use Rattle.gitconf_state.proofs.Edits.EditorItems.{removed_all}
use Rattle.gitconf_store.proofs.store.Store.remove_entry.Goals as goal

pub edit_items-requires-clause-keeps : goal.edit_items-requires-clause-keeps
edit_items-requires-clause-keeps c = λ items all. removed_all is_item c.args.key.now items all

pub returns-clause-stands : goal.returns-clause-stands
returns-clause-stands c =
    let ok : OnOk c.in_ok-edit_items.field-0 (c.edit_items.new.self ≡ apply (Remove c.args.id c.args.key.now) c.args.self.now) = search rules in
    either_stands c.in_ok-edit_items.field-0 c.args.self.now c.edit_items.new.self (apply (Remove c.args.id c.args.key.now) c.args.self.now) c.args.id
    (items_keep_numbers c.args.id c.args.id (removed c.args.key.now) c.args.self.now) ok c.in_ok-edit_items.ensures.err
