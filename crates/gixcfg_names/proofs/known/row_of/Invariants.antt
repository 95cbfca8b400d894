use Rattle.std.proofs.Common.{◌≡◌, drop, map}
use Rattle.gitconf_sources.specs.Key.{key_of}
use Rattle.gixcfg_names.specs.Known.{row_of}
use Rattle.gixcfg_names.specs.Rows.{plain}
use Rattle.gixcfg_names.proofs.known.row_of.Given as goal

abbrev pub invariant-loop-row : goal.invariant-loop-row
invariant-loop-row l =
    row_of (map plain (drop l.row-index l.rows)) (key_of l.key) ≡ row_of (map plain l.rows) (key_of l.key)
