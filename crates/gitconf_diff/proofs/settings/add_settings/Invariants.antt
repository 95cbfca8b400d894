use Rattle.std.proofs.Common.{◌≡◌, ◌++◌}
use Rattle.gitconf_diff.specs.PlainSettings.{plain_settings}
use Rattle.gitconf_views.specs.Views.{sections_left}
use Rattle.gitconf_diff.specs.Settings.{settings_of}
use Rattle.gitconf_diff.proofs.settings.add_settings.Given as goal

-- the settings so far, and those of the sections that are left
abbrev pub invariant-loop-section : goal.invariant-loop-section
invariant-loop-section l =
    plain_settings l.settings.items ++ settings_of l.side (sections_left l.section-iterator) ≡ plain_settings l.fn.settings.items ++ settings_of l.side (sections_left l.fn.sections)
