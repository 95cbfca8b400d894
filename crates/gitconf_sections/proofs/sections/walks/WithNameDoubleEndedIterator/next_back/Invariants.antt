use Rattle.std.proofs.Common.{◌≡◌, length}
use Rattle.gitconf_sections.specs.Walks.{with_name_left}
use Rattle.gitconf_sections.proofs.sections.walks.WithNameDoubleEndedIterator.next_back.Given as goal

abbrev pub invariant-loop-at : goal.invariant-loop-at
invariant-loop-at l = with_name_left l.self ≡ with_name_left l.initial.self

abbrev pub decreases-loop-at : goal.decreases-loop-at
decreases-loop-at l = length l.self.places
