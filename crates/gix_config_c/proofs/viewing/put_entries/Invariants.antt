use Rattle.std.proofs.Common.{◌≡◌, length}
use Rattle.gitconf_items.specs.Items.{items_of}
use Rattle.gitconf_state.specs.State.{entries_of}
use Rattle.gitconf_views.specs.Views.{shown}
use Rattle.gix_config_c.specs.Laying.{with_entries}
use Rattle.gix_config_c.specs.Views.{rows}
use Rattle.gix_config_c.proofs.viewing.put_entries.Given as goal

-- the entries that are left make of the rows so far what all make of those at first
abbrev pub invariant-loop-entry : goal.invariant-loop-entry
invariant-loop-entry l =
    with_entries (rows l.arrays) (entries_of (items_of l.section.buffer.now l.rest)) ≡ with_entries (rows l.fn.arrays) (entries_of (shown l.section).items)

abbrev pub decreases-loop-entry : goal.decreases-loop-entry
decreases-loop-entry l = length l.rest
