use Rattle.std.proofs.Common.{◌≡◌, ◌++◌, map, length}
use Rattle.std.specs.Prelude.{filter}
use Rattle.gitconf_diff.specs.Differences.{different_of}
use Rattle.gitconf_merge.specs.Changes.{is_conflict, plain_changes}
use Rattle.gitconf_merge.specs.Conflicts.{key_of, keys_of}
use Rattle.gitconf_merge.proofs.conflicts.conflicts_of.Given as goal

-- the conflicts so far, and those of the differences that are left
abbrev pub invariant-loop-difference : goal.invariant-loop-difference
invariant-loop-difference l =
    map key_of l.conflicts.items ++ filter (is_conflict (plain_changes l.changes)) (keys_of (map different_of l.rest))
    ≡ filter (is_conflict (plain_changes l.changes)) (keys_of (map different_of l.changes.ours.items))

abbrev pub decreases-loop-difference : goal.decreases-loop-difference
decreases-loop-difference l = length l.rest
