use Rattle.std.proofs.Common.{◌≡◌, ◌++◌, map, drop}
use Rattle.gixcfg_names.specs.Rows.{plain, rows_of}
use Rattle.gixcfg_names.proofs.rows.rows_in.Given as goal

abbrev pub invariant-loop-line : goal.invariant-loop-line
invariant-loop-line l =
    map plain l.rows.items ++ rows_of (map (λ line. line.now) (drop l.line-index l.line-items)) ≡ rows_of (map (λ line. line.now) l.line-items)
