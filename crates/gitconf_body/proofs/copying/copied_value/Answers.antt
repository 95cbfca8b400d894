use Rattle.std.proofs.Common.{rules, ◌≡◌, subst}
use Rattle.gitconf_items.specs.Items.{piece_of}
use Rattle.gitconf_items.specs.ItemsFit.{PieceFits}
use Rattle.gitconf_body.proofs.Copies.{AreCopies, value_copied}
use Rattle.gitconf_body.proofs.copying.copied_value.Goals as goal

pub returns-clause-copy : goal.returns-clause-copy
returns-clause-copy c =
    let lent : c.deref.result.now ≡ c.args.value.now.pieces.items = search rules in
    value_copied c.args.from.now c.copied_pieces.new.to.items c.copied_span.new.to.items c.args.value.now _
    (subst (λ ps. AreCopies piece_of PieceFits c.args.from.now c.copied_pieces.new.to.items ps c.in_ok-pieces.pieces.items) lent c.in_ok-pieces.ensures.copies)
    c.in_ok-last.ensures.longer.extended c.in_ok-last.ensures.stands
