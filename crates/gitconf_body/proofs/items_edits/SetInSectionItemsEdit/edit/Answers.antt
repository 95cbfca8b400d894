use Rattle.std.proofs.Common.{◌<◌, ◌+◌, ◌^◌, refl, sym, subst, length}
use Rattle.std.specs.Prelude.{OnErr, OnOk}
use Rattle.gitconf_text.specs.LineEnds.{bytes_of_line_end}
use Rattle.gitconf_body.proofs.Changing.{put_by_editor}
use Rattle.gitconf_body.specs.Growth.{UsedGrows}
use Rattle.gitconf_body.proofs.ItemsEdits.{used_left, used_put}
use Rattle.gitconf_body.proofs.items_edits.SetInSectionItemsEdit.edit.Goals as goal

pub set_at-requires-clause-fits : goal.set_at-requires-clause-fits
set_at-requires-clause-fits c = c.requires.found.0.fits _ c.requires.within

pub returns-clause-put : goal.returns-clause-put
returns-clause-put c =
    let b = c.args.buffer.now.items in
    let put = put_by_editor b c.args.found.editor (bytes_of_line_end c.args.self.now.line_end) c.args.self.now.key.now c.args.self.now.value.now c.args.items.now.items c.args.items.now.items refl
    (c.requires.found.0.is b) (c.requires.found.0.blanks b) in
    subst (λ n. OnOk c.set_at.result (UsedGrows c.set_at.result n (length b) (length c.set_at.new.buffer.items))) put
    (used_put c.set_at.result _ b c.set_at.new.buffer.items c.set_at.ensures.grows (subst (λ n. length b + n < 2 ^ 32) (sym put) c.requires.begun))

pub returns-clause-refused : goal.returns-clause-refused
returns-clause-refused c =
    let b = c.args.buffer.now.items in
    let put = put_by_editor b c.args.found.editor (bytes_of_line_end c.args.self.now.line_end) c.args.self.now.key.now c.args.self.now.value.now c.args.items.now.items c.args.items.now.items refl
    (c.requires.found.0.is b) (c.requires.found.0.blanks b) in
    subst (λ n. OnErr c.set_at.result (UsedGrows c.set_at.result n (length b) (length b))) put
    (used_left c.set_at.result _ b c.set_at.new.buffer.items c.set_at.ensures.grows (subst (λ n. length b + n < 2 ^ 32) (sym put) c.requires.begun))
