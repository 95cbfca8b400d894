use Rattle.std.proofs.Common.{rules, ◌≡◌}
use Rattle.std.specs.Prelude.{OnOk}
use Rattle.gitconf_state.specs.Editors.{removed_marked}
use Rattle.gitconf_state.specs.Edits.{RemoveMarked, apply}
use Rattle.gitconf_store.proofs.Edits.Numbered.{either_stands, items_keep_numbers}
use Rattle.gitconf_state.specs.State.{is_item}
use Rattle.gitconf_state.proofs.Edits.EditorItems.{removed_marked_all}
use Rattle.gitconf_store.proofs.store.Store.remove_marked_entries.Goals as goal

pub edit_items-requires-clause-keeps : goal.edit_items-requires-clause-keeps
edit_items-requires-clause-keeps c = λ items all. removed_marked_all is_item c.args.key.now c.args.marks.now items all

pub returns-clause-stands : goal.returns-clause-stands
returns-clause-stands c =
    let ok : OnOk c.in_ok-edit_items.field-0 (c.edit_items.new.self ≡ apply (RemoveMarked c.args.id c.args.key.now c.args.marks.now) c.args.self.now) = search rules in
    either_stands c.in_ok-edit_items.field-0 c.args.self.now c.edit_items.new.self (apply (RemoveMarked c.args.id c.args.key.now c.args.marks.now) c.args.self.now) c.args.id
    (items_keep_numbers c.args.id c.args.id (removed_marked c.args.key.now c.args.marks.now) c.args.self.now) ok c.in_ok-edit_items.ensures.err
