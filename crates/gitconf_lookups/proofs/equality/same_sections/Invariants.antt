use Rattle.std.proofs.Common.{◌≡◌, length}
use Rattle.std.specs.Cmp.Lexicographic.{pointwise}
use Rattle.gitconf_lookups.specs.Same.{same_section}
use Rattle.gitconf_views.specs.Views.{sections_left}
use Rattle.gitconf_lookups.proofs.equality.same_sections.Given as goal

-- what is left decides
abbrev pub invariant-loop-section : goal.invariant-loop-section
invariant-loop-section l = pointwise same_section (sections_left l.left) (sections_left l.right) ≡ pointwise same_section (sections_left l.fn.one) (sections_left l.fn.other)

abbrev pub decreases-loop-section : goal.decreases-loop-section
decreases-loop-section l = length (sections_left l.left)
