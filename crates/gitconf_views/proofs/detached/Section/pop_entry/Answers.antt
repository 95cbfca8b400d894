use Rattle.gitconf_state.specs.State.{is_item}
use Rattle.gitconf_state.proofs.Edits.EditorItems.{popped_all}
use Rattle.gitconf_views.proofs.PoppedKeys.{key_named}
use Rattle.gitconf_views.proofs.detached.Section.pop_entry.Goals as goal

pub edit_items-requires-clause-keeps : goal.edit_items-requires-clause-keeps
edit_items-requires-clause-keeps c = λ items all. popped_all is_item items all

pub returns-clause-name : goal.returns-clause-name
returns-clause-name c = key_named c.args.self.now.section.items c.edit_items.result c.edit_items.ensures.items c.edit_items.ensures.tells
