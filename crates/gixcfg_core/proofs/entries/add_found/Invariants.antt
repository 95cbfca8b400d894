use Rattle.std.proofs.Common.{◌≡◌, ◌++◌, map, length}
use Rattle.std.specs.Prelude.{filter}
use Rattle.std.specs.Option.{option_copied}
use Rattle.gitconf_items.specs.Items.{items_of}
use Rattle.gitconf_state.specs.State.{entries_of}
use Rattle.gitconf_views.specs.Views.{shown}
use Rattle.gixcfg_core.specs.Entries.{found_in, found_of, is_sought, plain_found}
use Rattle.gixcfg_core.proofs.entries.add_found.Given as goal

-- what is found so far, and what is among the items that are left
abbrev pub invariant-loop-entry : goal.invariant-loop-entry
invariant-loop-entry l =
    map plain_found l.found.items
    ++ map (found_of l.sought.before.now (option_copied l.subsection_name) (shown l.section))
    (filter (is_sought (option_copied l.sought.value_name)) (entries_of (items_of l.section.buffer.now l.rest)))
    ≡ map plain_found l.fn.found.items ++ found_in l.sought.before.now (option_copied l.subsection_name) (option_copied l.sought.value_name) (shown l.section)

abbrev pub decreases-loop-entry : goal.decreases-loop-entry
decreases-loop-entry l = length l.rest
