use Rattle.std.proofs.Common.{◌≡◌, ℕ, ◌+◌, length}
use Rattle.gitconf_items.specs.Items.{items_of}
use Rattle.gitconf_lookups.specs.ValuePlaces.{value_places}
use Rattle.gitconf_views.specs.Views.{shown}
use Rattle.gitconf_lookups.proofs.Placing.{IsTaken}
use Rattle.gitconf_lookups.proofs.ValuePlaces.{placed_from}
use Rattle.gitconf_lookups.proofs.places.push_places.Given as goal

-- those of the items before are found
abbrev pub invariant-loop-item : goal.invariant-loop-item
invariant-loop-item l = (at : ℕ)
    × (at + length l.rest ≡ length l.items)
    × IsTaken l.fn.found.items l.found.items (placed_from l.key l.section.id at (items_of l.section.buffer.now l.rest)) (value_places l.key (shown l.section))

abbrev pub decreases-loop-item : goal.decreases-loop-item
decreases-loop-item l = length l.rest
