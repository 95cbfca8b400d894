use Rattle.std.proofs.Common.{◌≡◌, ◌++◌, drop, flat_map, map}
use Rattle.gitconf_diff.specs.Differences.{different_of}
use Rattle.gixcfg_commands.specs.Differing.{difference_line}
use Rattle.gixcfg_commands.proofs.differing.all_lines.Given as goal

-- the lines so far, and those of the differences that are left
abbrev pub invariant-loop-difference : goal.invariant-loop-difference
invariant-loop-difference l =
    l.lines.items ++ flat_map (difference_line l.is_null) (map different_of (drop l.difference-index l.found)) ≡ flat_map (difference_line l.is_null) (map different_of l.found)
