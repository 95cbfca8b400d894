use Rattle.std.proofs.Common.{◌≡◌}
use Rattle.std.specs.Prelude.{slice_get}
use Rattle.gitconf_views.specs.Views.{sections_left}
use Rattle.gix_config_c.proofs.section_lists.section_at.Given as goal

-- the section that is looked for is so far on among those that are left
abbrev pub invariant-loop-section : goal.invariant-loop-section
invariant-loop-section l = slice_get (sections_left l.section-iterator) l.before ≡ slice_get (sections_left l.fn.sections) l.fn.index
