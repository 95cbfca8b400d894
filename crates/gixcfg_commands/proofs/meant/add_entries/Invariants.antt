use Rattle.std.proofs.Common.{◌≡◌, ◌++◌, map, filter}
use Rattle.std.specs.Prelude.{flat_map}
use Rattle.std.specs.Option.{option_map}
use Rattle.bstr.specs.Owned.{bstring_bytes}
use Rattle.gitconf_sources.specs.Key.{key_of}
use Rattle.gitconf_views.specs.Views.{sections_left}
use Rattle.gixcfg_core.specs.Entries.{is_listed_under, values_of_name}
use Rattle.gixcfg_commands.specs.Meant.{holders_of, holding, plain_holder, values_of_key}
use Rattle.gixcfg_commands.proofs.meant.add_entries.Given as goal

-- what is added so far, and what the sections add that are left
abbrev pub invariant-loop-section : goal.invariant-loop-section
invariant-loop-section l =
    (map plain_holder l.holders.items ++ map (holding (key_of l.key).name) (filter (is_listed_under (key_of l.key)) (sections_left l.section-iterator))
    ≡ map plain_holder l.fn.holders.items ++ holders_of (key_of l.key) l.file)
    × (map (option_map bstring_bytes) l.values.items ++ flat_map (values_of_name (key_of l.key).name) (filter (is_listed_under (key_of l.key)) (sections_left l.section-iterator))
    ≡ map (option_map bstring_bytes) l.fn.values.items ++ values_of_key (key_of l.key) l.file)
