use Rattle.std.proofs.Common.{◌≡◌, ◌++◌, map}
use Rattle.gitconf_diff.specs.PlainSections.{plain_sections, sided}
use Rattle.gitconf_views.specs.Views.{sections_left}
use Rattle.gitconf_diff.proofs.sections.add_sections.Given as goal

-- the sections so far, and those that are left
abbrev pub invariant-loop-section : goal.invariant-loop-section
invariant-loop-section l =
    plain_sections l.list.items ++ map (sided l.side) (sections_left l.section-iterator) ≡ plain_sections l.fn.list.items ++ map (sided l.side) (sections_left l.fn.sections)
