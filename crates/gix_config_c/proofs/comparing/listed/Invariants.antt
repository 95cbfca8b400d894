use Rattle.std.proofs.Common.{◌≡◌, ◌++◌, map}
use Rattle.std.specs.Vec.Iter.{into_iter_items}
use Rattle.gitconf_diff.specs.Differences.{different_of}
use Rattle.gix_config_c.specs.Compared.{told_difference}
use Rattle.gix_config_c.proofs.comparing.listed.Given as goal

-- the differences so far, and those that are left
abbrev pub invariant-loop-difference : goal.invariant-loop-difference
invariant-loop-difference l = map told_difference l.made.items ++ map different_of (into_iter_items l.difference-iterator) ≡ map different_of l.fn.found.items
