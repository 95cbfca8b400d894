use Rattle.std.proofs.Common.{rules, ◌≡◌, Err, refl, ap, ◌∙◌, arith}
use Rattle.std.specs.Option.{option_copied}
use Rattle.gitconf_state.specs.Edit.{new_section_bytes, set_bytes, set_value}
use Rattle.gitconf_text.specs.LineEnds.{bytes_of_line_end}
use Rattle.gitconf_body.proofs.Buffers.{extended_fit, extended_items, grows_err, grows_then, grows_until}
use Rattle.gitconf_body.proofs.section.append_section_with.Goals as goal

pub returns-clause-items : goal.returns-clause-items
returns-clause-items c =
    extended_items c.set_value.new.buffer.items c.append_header.new.buffer.items c.set_value.new.items.items c.append_header.ensures.grows.extended c.set_value.ensures.within
    ∙ c.in_ok-set_value.ensures.ok ∙ ap (set_value (bytes_of_line_end c.args.line_end) c.args.key.now c.args.value.now) c.in_ok-items.ensures.items

pub returns-clause-within : goal.returns-clause-within
returns-clause-within c =
    extended_fit c.set_value.new.buffer.items c.append_header.new.buffer.items c.set_value.new.items.items c.append_header.ensures.grows.extended c.set_value.ensures.within

pub returns-in_err-header-clause-grows : goal.returns-in_err-header-clause-grows
returns-in_err-header-clause-grows c =
    let is : c.from_residual-in_err-header.result ≡ Err c.in_err-header.field-0.0 = search rules in
    let l = bytes_of_line_end c.args.line_end in
    let put = ap (set_bytes l c.args.key.now c.args.value.now) c.in_ok-items.ensures.items in
    let count = new_section_bytes l c.args.name.now (option_copied c.args.subsection) c.args.key.now c.args.value.now in
    let both = grows_then _ _ _ _ _ _ _ _ c.in_ok-items.ensures.grows c.in_ok-set_value.ensures.grows refl in
    rw is (grows_err _ count _ _ _ (grows_until _ _ _ _ count _ _ _ both c.in_err-header.ensures.grows (omega (arith, put))) (omega arith))
