use Rattle.std.proofs.Common.{◌≡◌, ◌++◌, map, length}
use Rattle.std.specs.Prelude.{filter, Some}
use Rattle.std.specs.Option.{option_map}
use Rattle.bstr.specs.Owned.{bstring_bytes}
use Rattle.gitconf_items.specs.Items.{items_of}
use Rattle.gitconf_text.specs.Value.{plain}
use Rattle.gitconf_state.specs.State.{entries_of}
use Rattle.gitconf_views.specs.Views.{shown}
use Rattle.gixcfg_core.specs.Entries.{is_sought, values_of_name}
use Rattle.gixcfg_core.proofs.entries.add_values.Given as goal

-- the values so far, and those of the items that are left
abbrev pub invariant-loop-entry : goal.invariant-loop-entry
invariant-loop-entry l =
    map (option_map bstring_bytes) l.values.items
    ++ map (λ e. option_map plain e.raw) (filter (is_sought (Some l.value_name)) (entries_of (items_of l.section.buffer.now l.rest)))
    ≡ map (option_map bstring_bytes) l.fn.values.items ++ values_of_name l.value_name (shown l.section)

abbrev pub decreases-loop-entry : goal.decreases-loop-entry
decreases-loop-entry l = length l.rest
