use Rattle.std.proofs.Common.{refl}
use Rattle.gitconf_text.specs.LineEnds.{bytes_of_line_end}
use Rattle.gitconf_text.specs.declared.line_end.LineEnd.TheVariants.{Lf}
use Rattle.gitconf_state.specs.Editors.{written_at}
use Rattle.gitconf_body.specs.ValuesAt.{instead_of, rewritten_put}
use Rattle.gitconf_lookups.specs.ValuePlaces.{editor_of_numbered}
use Rattle.gitconf_store.specs.Edited.{bytes_in}
use Rattle.gitconf_store.specs.Existing.{rewriting}
use Rattle.gitconf_store.proofs.Edits.ItemsEdits.{rewritten_is}
use Rattle.gitconf_store.proofs.Edits.Numbered.{entry_written, grows_in}
use Rattle.gitconf_store.proofs.store.Store.rewrite_entry_at.Goals as goal

pub edit_items-requires-clause-keeps : goal.edit_items-requires-clause-keeps
edit_items-requires-clause-keeps c = λ items all. rewritten_is (bytes_of_line_end Lf) c.args.place (instead_of c.args.in_place_of) c.args.key.now c.args.value.now items c.requires.key all

pub returns : goal.returns
returns c =
    let after = c.in_ok-edit_items.ensures in
    let result = c.in_ok-edit_items.field-0 in
    let change = written_at (editor_of_numbered c.args.id c.args.self.now) c.args.place (instead_of c.args.in_place_of) c.args.key.now c.args.value.now in
    entry_written (rewriting (instead_of c.args.in_place_of) (c.args.id, c.args.place) c.args.key.now c.args.value.now c.args.self.now) c.args.key.now result
    (bytes_in c.args.id (rewritten_put c.args.key.now c.args.value.now) c.args.self.now) c.args.self.now c.edit_items.new.self c.requires.key (after.says change refl) after.err
    (grows_in c.args.id (rewritten_put c.args.key.now c.args.value.now) result c.args.self.now c.edit_items.new.self after.room after.grows after.missing after.done)
