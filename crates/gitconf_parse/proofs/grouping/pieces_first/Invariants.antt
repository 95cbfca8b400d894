use Rattle.std.proofs.Common.{◌≡◌, ◌∷◌, ◌++◌, true, map, flat_map, length}
use Rattle.gitconf_text.specs.Token.{ValueNotDoneToken, piece_tokens}
use Rattle.std.specs.List.{AllByRecursion}
use Rattle.gitconf_read.specs.Compact.{events_of}
use Rattle.gitconf_items.specs.Events.{bytes_of, token_of, SpanFits}
use Rattle.gitconf_items.specs.ItemsFit.{PieceFits, EventsWithin}
use Rattle.gitconf_items.specs.Items.{piece_of}
use Rattle.gitconf_items.specs.Grouping.{BehindPiece, are_items}
use Rattle.gitconf_parse.proofs.grouping.pieces_first.Given as goal

-- these pieces were read, and one of this text goes on
abbrev pub invariant-loop-pieces : goal.invariant-loop-pieces
invariant-loop-pieces l = record {
  joined : flat_map piece_tokens (map (piece_of l.buffer) l.pieces.items) ++ ValueNotDoneToken (bytes_of l.buffer l.text) ∷ map (token_of l.buffer) (events_of l.rest)
      ≡ ValueNotDoneToken (bytes_of l.buffer l.fn.text) ∷ map (token_of l.buffer) (events_of l.events);
  go_on : are_items BehindPiece (map (token_of l.buffer) (events_of l.rest)) ≡ true;
  pieces : AllByRecursion (PieceFits (length l.buffer)) l.pieces.items;
  text : SpanFits (length l.buffer) l.text;
  others : EventsWithin (length l.buffer) (events_of l.rest);
}

abbrev pub decreases-loop-pieces : goal.decreases-loop-pieces
decreases-loop-pieces l = length (events_of l.rest)
