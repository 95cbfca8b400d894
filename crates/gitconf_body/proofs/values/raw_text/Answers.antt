use Rattle.std.proofs.Common.{rules, ◌++◌, ap, ◌∙◌}
use Rattle.gitconf_items.specs.Events.{bytes_of}
use Rattle.gitconf_body.proofs.Raw.{pieces_joined}
use Rattle.gitconf_body.proofs.values.raw_text.Goals as goal

pub returns : goal.returns
returns c =
    let last = bytes_of c.args.buffer.now c.args.value.now.last in
    c.in_ok-extend_from_slice-2.ensures.items
    ∙ ap (λ t. c.loop-piece.raw.items ++ t) c.bytes_in-2.ensures
    ∙ ap (λ t. t ++ last) (c.loop-piece.invariant ∙ pieces_joined c.args.buffer.now c.args.value.now.pieces.items c.loop-piece.piece-index (search rules))
