use Rattle.std.proofs.Common.{◌≡◌, ◌+◌, ◌≤◌, ◌^◌, IsErrOf, length, subst, sym}
use Rattle.std.specs.Prelude.{OnOk}
use Rattle.gitconf_items.specs.ItemsFit.{AreItemsWithin}
use Rattle.gitconf_items.specs.Items.{items_of}
use Rattle.gitconf_text.specs.LineEnds.{bytes_of_line_end}
use Rattle.gitconf_body.specs.Buffers.{Grows}
use Rattle.gitconf_body.proofs.Changing.{set_by_editor, put_by_editor}
use Rattle.gitconf_body.proofs.entry.set_value.Goals as goal

pub returns-clause-ok : goal.returns-clause-ok
returns-clause-ok c =
    subst (λ is. OnOk c.set.result (items_of c.set.new.buffer.items c.set.new.items.items ≡ is))
    (set_by_editor c.args.buffer.now.items c.editor_of-editor.result (bytes_of_line_end c.args.line_end) c.args.key.now c.args.value.now c.deref.result.now c.args.items.now.items
    c.deref.ensures.value (c.editor_of-editor.ensures.told c.args.buffer.now.items)) c.set.ensures.ok

pub returns-clause-grows : goal.returns-clause-grows
returns-clause-grows c =
    subst (λ n. Grows c.set.result n c.args.buffer.now.items c.set.new.buffer.items)
    (put_by_editor c.args.buffer.now.items c.editor_of-editor.result (bytes_of_line_end c.args.line_end) c.args.key.now c.args.value.now c.deref.result.now c.args.items.now.items
    c.deref.ensures.value (c.editor_of-editor.ensures.told c.args.buffer.now.items) (c.editor_of-editor.ensures.blanks c.args.buffer.now.items)) c.set.ensures.grows

pub returns-clause-refused : goal.returns-clause-refused
returns-clause-refused c =
    subst (λ n. 2 ^ 32 ≤ length c.args.buffer.now.items + n → IsErrOf c.set.result 3)
    (put_by_editor c.args.buffer.now.items c.editor_of-editor.result (bytes_of_line_end c.args.line_end) c.args.key.now c.args.value.now c.deref.result.now c.args.items.now.items
    c.deref.ensures.value (c.editor_of-editor.ensures.told c.args.buffer.now.items) (c.editor_of-editor.ensures.blanks c.args.buffer.now.items)) c.set.ensures.refused

pub set-requires-clause-fits : goal.set-requires-clause-fits
set-requires-clause-fits c =
    c.editor_of-editor.ensures.fits (length c.args.buffer.now.items) (subst (AreItemsWithin (length c.args.buffer.now.items)) (sym c.deref.ensures.value) c.requires.within)
