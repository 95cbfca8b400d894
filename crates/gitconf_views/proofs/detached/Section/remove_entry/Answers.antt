use Rattle.gitconf_state.specs.State.{is_item}
use Rattle.gitconf_state.proofs.Edits.EditorItems.{removed_all}
use Rattle.gitconf_views.proofs.detached.Section.remove_entry.Goals as goal

pub edit_items-requires-clause-keeps : goal.edit_items-requires-clause-keeps
edit_items-requires-clause-keeps c = λ items all. removed_all is_item c.args.key.now items all
