use Rattle.std.proofs.Common.{◌≡◌, ◌++◌, map}
use Rattle.gitconf_views.specs.Views.{sections_left}
use Rattle.gix_config_c.specs.SectionLists.{listed_section, told_section}
use Rattle.gix_config_c.proofs.section_lists.copies.Given as goal

-- the sections so far, and those that are left
abbrev pub invariant-loop-section : goal.invariant-loop-section
invariant-loop-section l = map listed_section l.made.items ++ map told_section (sections_left l.section-iterator) ≡ map told_section (sections_left l.fn.sections)
