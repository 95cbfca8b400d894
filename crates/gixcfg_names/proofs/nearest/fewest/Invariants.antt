use Rattle.std.proofs.Common.{◌≡◌, drop, map}
use Rattle.gixcfg_names.specs.Nearest.{fewest, near}
use Rattle.gixcfg_names.proofs.nearest.fewest.Given as goal

abbrev pub invariant-loop-near : goal.invariant-loop-near
invariant-loop-near l =
    fewest l.fewest (map near (drop l.near-index l.all)) ≡ fewest l.from (map near l.all)
