use Rattle.std.proofs.Common.{drop, ◌+◌, ap, sym, ◌∙◌}
use Rattle.std.specs.Option.{option_or}
use Rattle.gitconf_items.specs.Items.{items_of, tokens_in}
use Rattle.gitconf_print.specs.LineEnds.{first_newline}
use Rattle.gitconf_print.proofs.Newlines.{next_newline}
use Rattle.gitconf_print.proofs.line_end.first_line_end.Goals as goal

pub returns-in-Some : goal.returns-in-Some
returns-in-Some c =
    let items = c.args.items.now in
    let i = c.loop-item.item-index in
    let behind = first_newline (tokens_in (items_of c.args.buffer.now (drop (i + 1) items))) in
    ap (λ o. option_or o behind) c.in-Some.ensures
    ∙ (sym (next_newline c.args.buffer.now items i c.item-item.result c.loop-item-test.true c.item-item.is) ∙ c.loop-item.invariant)
