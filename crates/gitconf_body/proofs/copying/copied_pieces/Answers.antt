use Rattle.std.proofs.Common.{rules, ◌≡◌, [], ◌∷◌, ◌++◌, ap, arith, map}
use Rattle.gitconf_items.specs.Items.{piece_of}
use Rattle.gitconf_items.specs.ItemsFit.{PieceFits}
use Rattle.gitconf_body.specs.Copies.{pieces_size}
use Rattle.gitconf_body.proofs.Copies.{longer_then, one_copied, piece_stays}
use Rattle.gitconf_body.proofs.copying.copied_pieces.Goals as goal

pub loop-piece-preserved : goal.loop-piece-preserved
loop-piece-preserved c =
    let first : c.loop-piece.rest.now ≡ c.in-Some.piece.now ∷ c.in-Some.behind.now = search rules in
    let is : c.push.new.self.items ≡ c.loop-piece.copies.items ++ c.in_ok-copy.copy ∷ [] = search rules in
    let sizes = ap (λ xs. pieces_size (map (piece_of c.args.from.now) xs)) first in
    record {
      longer = longer_then c.args.to.now.items c.loop-piece.to.items c.copied_piece.new.to.items c.loop-piece.invariant.longer c.in_ok-copy.ensures.longer;
      put = omega (arith, sizes, c.loop-piece.invariant.put, c.in_ok-copy.ensures.put);
      copying = one_copied piece_of PieceFits piece_stays c.args.from.now c.loop-piece.to.items c.copied_piece.new.to.items c.loop-piece.copies.items c.push.new.self.items
          c.loop-piece.rest.now c.in-Some.behind.now c.args.pieces.now c.in-Some.piece.now c.in_ok-copy.copy c.loop-piece.invariant.copying first
          c.in_ok-copy.ensures.longer.extended c.in_ok-copy.ensures.copy is;
    }
