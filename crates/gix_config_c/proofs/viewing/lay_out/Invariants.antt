use Rattle.std.proofs.Common.{◌≡◌}
use Rattle.gitconf_views.specs.Views.{sections_left}
use Rattle.gix_config_c.specs.Laying.{no_rows, with_sections}
use Rattle.gix_config_c.specs.Views.{rows}
use Rattle.gix_config_c.proofs.viewing.lay_out.Given as goal

-- the sections that are left make of the rows so far what all make of none
abbrev pub invariant-loop-section : goal.invariant-loop-section
invariant-loop-section l = with_sections (rows l.arrays) (sections_left l.section-iterator) ≡ with_sections no_rows (sections_left l.fn.sections)
