use Rattle.std.proofs.Common.{rules, ◌≡◌, ◌+◌, Ok, Err, None, arith, ap, refl}
use Rattle.std.specs.Option.{option_copied}
use Rattle.gitconf_items.specs.Items.{items_of}
use Rattle.gitconf_state.specs.Editors.{line_made}
use Rattle.gitconf_text.specs.LineEnds.{bytes_of_line_end}
use Rattle.gitconf_body.specs.Below.{below_put, lacking_put}
use Rattle.gitconf_body.specs.Editors.{editor_in, line_put}
use Rattle.gitconf_body.proofs.Buffers.{extended_fit, extended_items, grows_err, grows_ok, grows_then, grows_until}
use Rattle.gitconf_body.proofs.Gaps.{put_stand}
use Rattle.gitconf_body.proofs.push_below.put_below.Goals as goal

pub gap_of-requires-clause-within : goal.gap_of-requires-clause-within
gap_of-requires-clause-within c =
    extended_fit c.args.buffer.now.items c.put_line.new.buffer.items c.args.items.now c.put_line.ensures.grows.extended c.requires.within

pub returns-in_err-gap-clause-grows : goal.returns-in_err-gap-clause-grows
returns-in_err-gap-clause-grows c =
    let b = c.args.buffer.now.items in
    let is : c.from_residual-in_err-gap.result ≡ Err c.in_err-gap.field-0.0 = search rules in
    let same = extended_items b c.put_line.new.buffer.items c.args.items.now c.put_line.ensures.grows.extended c.requires.within in
    let count = below_put c.args.editor.now c.args.key.now (option_copied c.args.value) (items_of b c.args.items.now) in
    let counts : line_put c.args.editor.now c.args.key.now (option_copied c.args.value) None + lacking_put c.args.editor.now (items_of c.put_line.new.buffer.items c.args.items.now) ≡ count =
    (let lacks : lacking_put c.args.editor.now (items_of c.put_line.new.buffer.items c.args.items.now) ≡ lacking_put c.args.editor.now (items_of b c.args.items.now) = ap (lacking_put c.args.editor.now) same in
    omega (arith, lacks)) in
    rw is (grows_err _ count _ _ _ (grows_until _ _ _ _ count _ _ _ c.in_ok-line.ensures.grows c.in_err-gap.ensures.grows (omega (arith, counts))) (omega arith))

pub returns-clause-stands : goal.returns-clause-stands
returns-clause-stands c =
    put_stand c.args.buffer.now.items c.put_line.new.buffer.items c.gap_of.new.buffer.items (bytes_of_line_end c.args.editor.now.line_end) c.args.items.now
    (line_made (editor_in c.args.buffer.now.items c.args.editor.now) c.args.key.now (option_copied c.args.value) None)
    (record { line = c.in_ok-line.line; gap = c.in_ok-gap.gap })
    c.put_line.ensures.grows.extended c.gap_of.ensures.grows.extended c.requires.within c.in_ok-line.ensures.stands c.in_ok-gap.ensures.gap

pub returns-clause-grows : goal.returns-clause-grows
returns-clause-grows c =
    let b = c.args.buffer.now.items in
    let same = extended_items b c.put_line.new.buffer.items c.args.items.now c.put_line.ensures.grows.extended c.requires.within in
    let lacks : lacking_put c.args.editor.now (items_of c.put_line.new.buffer.items c.args.items.now) ≡ lacking_put c.args.editor.now (items_of b c.args.items.now) = ap (lacking_put c.args.editor.now) same in
    grows_ok _ _ _ _ _ _ (grows_then _ (Ok c.in_ok-gap.gap) _ _ _ _ _ _ c.in_ok-line.ensures.grows c.in_ok-gap.ensures.grows refl) (omega (arith, lacks))
