use Rattle.std.proofs.Common.{rules, ◌<◌, ◌≤◌, ◌+◌, ◌^◌, refl, subst, length}
use Rattle.std.specs.Prelude.{IsErrOf}
use Rattle.gitconf_text.specs.LineEnds.{bytes_of_line_end}
use Rattle.gitconf_body.proofs.Changing.{put_by_editor}
use Rattle.gitconf_body.proofs.ItemsEdits.{checked_fits, refused_grows}
use Rattle.gitconf_body.proofs.items_edits.SetInSectionItemsEdit.look.Goals as goal

pub returns-clause-begun : goal.returns-clause-begun
returns-clause-begun c =
    let b = c.args.buffer.now in
    let put = put_by_editor b c.editor_of-editor.result (bytes_of_line_end c.args.self.now.line_end) c.args.self.now.key.now c.args.self.now.value.now c.args.items.now c.args.items.now refl
    (c.editor_of-editor.ensures.told b) (c.editor_of-editor.ensures.blanks b) in
    subst (λ n. length b + n < 2 ^ 32) put (checked_fits c.place_to_set.result _ _ c.in_ok-place.was c.place_to_set.ensures.too_large)

pub returns-in_err-place-clause-refused : goal.returns-in_err-place-clause-refused
returns-in_err-place-clause-refused c =
    let b = c.args.buffer.now in
    let put = put_by_editor b c.editor_of-editor.result (bytes_of_line_end c.args.self.now.line_end) c.args.self.now.key.now c.args.self.now.value.now c.args.items.now c.args.items.now refl
    (c.editor_of-editor.ensures.told b) (c.editor_of-editor.ensures.blanks b) in
    let three : IsErrOf c.from_residual.result 3 = search rules in
    let asked : IsErrOf c.place_to_set.result 3 = search rules in
    refused_grows _ c.from_residual.result _ (length b) three (subst (λ n. 2 ^ 32 ≤ length b + n) put (c.place_to_set.ensures.too_large.0 asked))
