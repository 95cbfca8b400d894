use Rattle.std.proofs.Common.{◌≡◌, ◌++◌, map, length}
use Rattle.gitconf_diff.specs.PlainSettings.{plain_settings}
use Rattle.gitconf_items.specs.Items.{items_of}
use Rattle.gitconf_state.specs.State.{entries_of}
use Rattle.gitconf_views.specs.Views.{shown}
use Rattle.gitconf_diff.specs.Settings.{section_settings, setting_of}
use Rattle.gitconf_diff.proofs.settings.add_section.Given as goal

-- the settings so far, and those of the items that are left
abbrev pub invariant-loop-entry : goal.invariant-loop-entry
invariant-loop-entry l =
    plain_settings l.settings.items ++ map (setting_of l.side (shown l.section)) (entries_of (items_of l.section.buffer.now l.rest))
    ≡ plain_settings l.fn.settings.items ++ section_settings l.side (shown l.section)

abbrev pub decreases-loop-entry : goal.decreases-loop-entry
decreases-loop-entry l = length l.rest
