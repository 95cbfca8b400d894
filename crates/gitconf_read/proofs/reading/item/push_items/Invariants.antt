use Rattle.std.proofs.Common.{◌-◌, ◌≤◌, length}
use Rattle.gitconf_items.specs.Items.{tokens_of_items}
use Rattle.gitconf_items.specs.ItemsFit.{AreItemsWithin}
use Rattle.gitconf_read.specs.Stretches.{IsKeptStretch}
use Rattle.gitconf_read.proofs.reading.item.push_items.Given as goal

-- what is kept of the items up to here was read
abbrev pub invariant-loop-at : goal.invariant-loop-at
invariant-loop-at l = record {
  inside : l.at ≤ length l.input;
  read : IsKeptStretch l.keep l.input l.start l.wanted l.at l.wanted (tokens_of_items l.input l.items.items);
  items : AreItemsWithin (length l.input) l.items.items;
}

abbrev pub decreases-loop-at : goal.decreases-loop-at
decreases-loop-at l = length l.input - l.at
