use Rattle.gitconf_items.specs.Items.{item_of}
use Rattle.gitconf_items.specs.ItemsFit.{ItemFits}
use Rattle.gitconf_items.specs.Moves.{IsMoved}
use Rattle.gitconf_items.proofs.Moves.{AreChanged}
use Rattle.gitconf_items.proofs.moving.move_items.Given as goal

-- those before the place are moved
abbrev pub invariant-loop-at : goal.invariant-loop-at
invariant-loop-at l = AreChanged (IsMoved item_of ItemFits l.by) l.at l.initial.items l.items
