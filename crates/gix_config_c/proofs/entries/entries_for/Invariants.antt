use Rattle.std.proofs.Common.{◌≡◌, ◌++◌, map}
use Rattle.std.specs.Vec.Iter.{into_iter_items}
use Rattle.gitconf_diff.specs.PlainSettings.{plain_settings}
use Rattle.gix_config_c.specs.Listed.{listed_entry, listed_setting}
use Rattle.gix_config_c.proofs.entries.entries_for.Given as goal

-- the entries so far, and those of the settings that are left
abbrev pub invariant-loop-setting : goal.invariant-loop-setting
invariant-loop-setting l =
    map listed_entry l.entries.items ++ map listed_setting (plain_settings (into_iter_items l.setting-iterator)) ≡ map listed_setting (plain_settings l.fn.settings.items)
