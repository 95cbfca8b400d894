use Rattle.std.proofs.Common.{◌≡◌, ◌++◌, drop, map}
use Rattle.gitconf_sources.specs.Key.{key_of}
use Rattle.gixcfg_names.specs.Nearest.{all_beside, near}
use Rattle.gixcfg_names.specs.Rows.{plain}
use Rattle.gixcfg_names.proofs.nearest.all_beside.Given as goal

abbrev pub invariant-loop-row : goal.invariant-loop-row
invariant-loop-row l =
    map near l.all.items ++ all_beside (map plain (drop l.row-index l.rows)) (key_of l.key) ≡ all_beside (map plain l.rows) (key_of l.key)
