use Rattle.std.proofs.Common.{◌-◌, ◌≡◌}
use Rattle.gitconf_sections.specs.Places.{left_of, IsPlaces}
use Rattle.gitconf_sections.proofs.index.PlacesDoubleEndedIterator.next_back.Given as goal

abbrev pub invariant-loop-self : goal.invariant-loop-self
invariant-loop-self l = record {
  left : left_of l.self-inside ≡ left_of l.initial.self-inside;
  walk : IsPlaces l.self-inside;
}

abbrev pub decreases-loop-self : goal.decreases-loop-self
decreases-loop-self l = l.self-inside.behind - l.self-inside.front
