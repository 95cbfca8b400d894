use Rattle.std.proofs.Common.{◌-◌, ◌≤◌, length}
use Rattle.std.specs.List.{AllByRecursion}
use Rattle.gitconf_items.specs.ItemsFit.{PieceFits}
use Rattle.gitconf_read.proofs.ItemReading.{IsBegun}
use Rattle.gitconf_read.proofs.reading.item.value.Given as goal

-- these pieces were read, and the value continues after them
abbrev pub invariant-loop-end : goal.invariant-loop-end
invariant-loop-end l = record {
  ordered : (l.first ≤ l.from) × (l.from ≤ length l.input);
  read : IsBegun l.input l.first l.from l.quoted l.pieces.items;
  pieces : AllByRecursion (PieceFits (length l.input)) l.pieces.items;
}

abbrev pub decreases-loop-end : goal.decreases-loop-end
decreases-loop-end l = length l.input - l.from
