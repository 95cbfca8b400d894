use Rattle.std.specs.Option.{option_copied}
use Rattle.gitconf_body.specs.Blanks.{given_editor}
use Rattle.gitconf_state.proofs.Edits.EditorItems.{pushed_after_last_is}
use Rattle.gitconf_views.proofs.detached.Section.push_entry_after_last.Goals as goal

pub edit_items-requires-clause-keeps : goal.edit_items-requires-clause-keeps
edit_items-requires-clause-keeps c = λ items all. pushed_after_last_is (given_editor c.args.editor.now) c.args.key.now (option_copied c.args.value) items c.requires.editor c.requires.key all
