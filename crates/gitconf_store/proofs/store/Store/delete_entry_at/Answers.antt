use Rattle.std.proofs.Common.{ap, ◌∙◌}
use Rattle.gitconf_state.specs.Editors.{deleted_at}
use Rattle.gitconf_store.specs.Edited.{has_number}
use Rattle.gitconf_store.proofs.Edits.Numbered.{items_keep_numbers}
use Rattle.gitconf_store.proofs.store.Store.delete_entry_at.Goals as goal

pub returns-clause-stands : goal.returns-clause-stands
returns-clause-stands c = ap (has_number c.args.id) c.delete_run.ensures ∙ items_keep_numbers c.args.id c.args.id (deleted_at c.args.place) c.args.self.now
