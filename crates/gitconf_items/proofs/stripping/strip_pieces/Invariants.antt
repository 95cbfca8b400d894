use Rattle.gitconf_items.specs.Items.{piece_of}
use Rattle.gitconf_items.specs.ItemsFit.{PieceFits}
use Rattle.gitconf_items.specs.Stripped.{stripped_piece, IsStripped}
use Rattle.gitconf_items.proofs.Moves.{AreChanged}
use Rattle.gitconf_items.proofs.stripping.strip_pieces.Given as goal

-- those before the place are stripped
abbrev pub invariant-loop-at : goal.invariant-loop-at
invariant-loop-at l = AreChanged (IsStripped piece_of stripped_piece PieceFits) l.at l.initial.pieces l.pieces
