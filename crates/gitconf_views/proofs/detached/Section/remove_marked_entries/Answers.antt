use Rattle.gitconf_state.specs.State.{is_item}
use Rattle.gitconf_state.proofs.Edits.EditorItems.{removed_marked_all}
use Rattle.gitconf_views.proofs.detached.Section.remove_marked_entries.Goals as goal

pub edit_items-requires-clause-keeps : goal.edit_items-requires-clause-keeps
edit_items-requires-clause-keeps c = λ items all. removed_marked_all is_item c.args.key.now c.args.marks.now items all
