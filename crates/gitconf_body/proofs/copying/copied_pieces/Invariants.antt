use Rattle.std.proofs.Common.{◌≡◌, ◌+◌, length, map}
use Rattle.gitconf_items.specs.Items.{piece_of}
use Rattle.gitconf_items.specs.ItemsFit.{PieceFits}
use Rattle.gitconf_body.specs.Copies.{pieces_size, IsLonger}
use Rattle.gitconf_body.proofs.Copies.{AreCopying}
use Rattle.gitconf_body.proofs.copying.copied_pieces.Given as goal

-- these are copied, and the others are left
abbrev pub invariant-loop-piece : goal.invariant-loop-piece
invariant-loop-piece l = record {
  longer : IsLonger l.fn.to.items l.to.items;
  put : length l.to.items + pieces_size (map (piece_of l.from) l.rest) ≡ length l.fn.to.items + pieces_size (map (piece_of l.from) l.fn.pieces);
  copying : AreCopying piece_of PieceFits l.from l.to.items l.copies.items l.rest l.fn.pieces;
}

abbrev pub decreases-loop-piece : goal.decreases-loop-piece
decreases-loop-piece l = length l.rest
