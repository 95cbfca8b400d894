use Rattle.std.proofs.Common.{◌≡◌, ◌++◌, map, length}
use Rattle.gitconf_diff.specs.PlainSettings.{plain_mentions}
use Rattle.gitconf_diff.specs.PlainSections.{plain_section, setting_in, settings_of_one}
use Rattle.gitconf_items.specs.Items.{items_of}
use Rattle.gitconf_state.specs.State.{entries_of}
use Rattle.gitconf_diff.proofs.sections.add_mentions.Given as goal

-- the entries so far, and those of the items that are left
abbrev pub invariant-loop-entry : goal.invariant-loop-entry
invariant-loop-entry l =
    plain_mentions l.mentions.items ++ map (setting_in (plain_section l.section)) (entries_of (items_of l.section.buffer.now l.rest))
    ≡ plain_mentions l.fn.mentions.items ++ settings_of_one (plain_section l.section)

abbrev pub decreases-loop-entry : goal.decreases-loop-entry
decreases-loop-entry l = length l.rest
