use Rattle.gitconf_items.specs.Items.{piece_of}
use Rattle.gitconf_items.specs.ItemsFit.{PieceFits}
use Rattle.gitconf_items.specs.Moves.{IsMoved}
use Rattle.gitconf_items.proofs.Moves.{AreChanged}
use Rattle.gitconf_items.proofs.moving.move_pieces.Given as goal

-- those before the place are moved
abbrev pub invariant-loop-at : goal.invariant-loop-at
invariant-loop-at l = AreChanged (IsMoved piece_of PieceFits l.by) l.at l.initial.pieces l.pieces
