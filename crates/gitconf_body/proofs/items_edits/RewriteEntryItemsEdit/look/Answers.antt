use Rattle.std.proofs.Common.{rules, ◌<◌, ◌≤◌, ◌+◌, ◌^◌, subst, length}
use Rattle.std.specs.Prelude.{IsErrOf}
use Rattle.gitconf_body.proofs.ItemsEdits.{checked_fits, rewritten_count, refused_grows}
use Rattle.gitconf_body.proofs.items_edits.RewriteEntryItemsEdit.look.Goals as goal

pub returns-clause-begun : goal.returns-clause-begun
returns-clause-begun c =
    let b = c.args.buffer.now in
    let put = rewritten_count b c.editor_of-editor.result c.args.self.now.key.now c.args.self.now.value.now c.args.items.now (c.editor_of-editor.ensures.around b) in
    subst (λ n. length b + n < 2 ^ 32) put (checked_fits c.check_write.result _ _ c.in_ok-check_write.was c.check_write.ensures.too_large)

pub returns-in_err-check_write-clause-refused : goal.returns-in_err-check_write-clause-refused
returns-in_err-check_write-clause-refused c =
    let b = c.args.buffer.now in
    let put = rewritten_count b c.editor_of-editor.result c.args.self.now.key.now c.args.self.now.value.now c.args.items.now (c.editor_of-editor.ensures.around b) in
    let three : IsErrOf c.from_residual.result 3 = search rules in
    let asked : IsErrOf c.check_write.result 3 = search rules in
    refused_grows _ c.from_residual.result _ (length b) three (subst (λ n. 2 ^ 32 ≤ length b + n) put (c.check_write.ensures.too_large.0 asked))
