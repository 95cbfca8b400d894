use Rattle.std.proofs.Common.{◌<◌, ◌+◌, ◌^◌, sym, subst, length}
use Rattle.std.specs.Prelude.{OnErr, OnOk}
use Rattle.gitconf_body.specs.Growth.{UsedGrows}
use Rattle.gitconf_body.proofs.ItemsEdits.{rewritten_count, used_left, used_put}
use Rattle.gitconf_body.proofs.items_edits.RewriteEntryItemsEdit.edit.Goals as goal

pub write_at-requires-clause-fits : goal.write_at-requires-clause-fits
write_at-requires-clause-fits c = c.requires.found.fits _ c.requires.within

pub returns-clause-put : goal.returns-clause-put
returns-clause-put c =
    let b = c.args.buffer.now.items in
    let put = rewritten_count b c.args.editor c.args.self.now.key.now c.args.self.now.value.now c.args.items.now.items (c.requires.found.around b) in
    subst (λ n. OnOk c.write_at.result (UsedGrows c.write_at.result n (length b) (length c.write_at.new.buffer.items))) put
    (used_put c.write_at.result _ b c.write_at.new.buffer.items c.write_at.ensures.grows (subst (λ n. length b + n < 2 ^ 32) (sym put) c.requires.begun))

pub returns-clause-refused : goal.returns-clause-refused
returns-clause-refused c =
    let b = c.args.buffer.now.items in
    let put = rewritten_count b c.args.editor c.args.self.now.key.now c.args.self.now.value.now c.args.items.now.items (c.requires.found.around b) in
    subst (λ n. OnErr c.write_at.result (UsedGrows c.write_at.result n (length b) (length b))) put
    (used_left c.write_at.result _ b c.write_at.new.buffer.items c.write_at.ensures.grows (subst (λ n. length b + n < 2 ^ 32) (sym put) c.requires.begun))
