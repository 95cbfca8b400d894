use Rattle.std.proofs.Common.{◌≡◌}
use Rattle.gitconf_print.specs.LineEnds.{first_newline_of_bodies}
use Rattle.gitconf_views.specs.Views.{sections_left}
use Rattle.gitconf_lookups.proofs.tokens.bodies_line_end.Given as goal

-- what holds of the sections that are left
abbrev pub invariant-loop-section : goal.invariant-loop-section
invariant-loop-section l = record {
  can_next : (goal.iterator-loop-section).can_next l.section-iterator;
  is_finite : (goal.iterator-loop-section).is_finite l.section-iterator;
  found : first_newline_of_bodies (sections_left l.fn.sections) ≡ first_newline_of_bodies (sections_left l.section-iterator);
}
