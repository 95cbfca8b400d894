use Rattle.gitconf_views.proofs.MovedTables.{AreMovedTo}
use Rattle.gitconf_views.proofs.shifted_sections.move_sections.Given as goal

-- those before the place are moved
abbrev pub invariant-loop-at : goal.invariant-loop-at
invariant-loop-at l = AreMovedTo l.by l.copies_by l.at l.initial.sections l.sections
