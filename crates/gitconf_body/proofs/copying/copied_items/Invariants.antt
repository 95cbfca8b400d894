use Rattle.std.proofs.Common.{◌≡◌, ◌+◌, length}
use Rattle.gitconf_items.specs.Items.{item_of, items_of}
use Rattle.gitconf_items.specs.ItemsFit.{ItemFits}
use Rattle.gitconf_body.specs.Copies.{items_size, IsLonger}
use Rattle.gitconf_body.proofs.Copies.{AreCopying}
use Rattle.gitconf_body.proofs.copying.copied_items.Given as goal

-- these are copied, and the others are left
abbrev pub invariant-loop-item : goal.invariant-loop-item
invariant-loop-item l = record {
  longer : IsLonger l.fn.to.items l.to.items;
  put : length l.to.items + items_size (items_of l.from l.rest) ≡ length l.fn.to.items + items_size (items_of l.from l.fn.items);
  copying : AreCopying item_of ItemFits l.from l.to.items l.copies.items l.rest l.fn.items;
}

abbrev pub decreases-loop-item : goal.decreases-loop-item
decreases-loop-item l = length l.rest
