use Rattle.std.proofs.Common.{◌-◌, ◌≤◌, List, length}
use Rattle.gitconf_items.specs.declared.entry.Piece.{Piece}
use Rattle.gitconf_read.proofs.ItemReading.{IsBegun}
use Rattle.gitconf_parse.proofs.lookup.value.value_end.Given as goal

-- some pieces were read, and the value continues after them
abbrev pub invariant-loop-end : goal.invariant-loop-end
invariant-loop-end l = (l.first ≤ l.from) × (l.from ≤ length l.input) × ((pieces : List Piece) × IsBegun l.input l.first l.from l.quoted pieces)

abbrev pub decreases-loop-end : goal.decreases-loop-end
decreases-loop-end l = length l.input - l.from
