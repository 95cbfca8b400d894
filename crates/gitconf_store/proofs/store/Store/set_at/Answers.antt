use Rattle.gitconf_text.specs.LineEnds.{bytes_of_line_end}
use Rattle.gitconf_state.proofs.Edits.Items.{set_value_is}
use Rattle.gitconf_store.proofs.Edits.ItemsEdits.{line_end_closes}
use Rattle.gitconf_store.proofs.store.Store.set_at.Goals as goal

pub edit_items_at-requires-clause-keeps : goal.edit_items_at-requires-clause-keeps
edit_items_at-requires-clause-keeps c = λ items all.
    set_value_is (bytes_of_line_end c.line_end-line_end.result) c.args.key.now c.args.value.now items c.requires.key (line_end_closes c.line_end-line_end.result) all
