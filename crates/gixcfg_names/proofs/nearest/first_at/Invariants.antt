use Rattle.std.proofs.Common.{◌≡◌, drop, map}
use Rattle.gixcfg_names.specs.Nearest.{first_at, near}
use Rattle.gixcfg_names.proofs.nearest.first_at.Given as goal

abbrev pub invariant-loop-near : goal.invariant-loop-near
invariant-loop-near l =
    first_at l.distance (map near (drop l.near-index l.all)) ≡ first_at l.distance (map near l.all)
