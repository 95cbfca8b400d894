use Rattle.std.proofs.Common.{◌≡◌, ◌||◌, map, not, length}
use Rattle.std.specs.List.{list_all}
use Rattle.gitconf_diff.specs.Differences.{different_of}
use Rattle.gitconf_merge.specs.Changes.{is_conflict, plain_changes}
use Rattle.gitconf_merge.specs.Conflicts.{keys_of}
use Rattle.gitconf_merge.specs.Unions.{is_united}
use Rattle.gitconf_merge.proofs.uniting.are_all_united.Given as goal

-- the answer for the keys that are left is that for all
abbrev pub invariant-loop-difference : goal.invariant-loop-difference
invariant-loop-difference l =
    list_all (λ names. not (is_conflict (plain_changes l.changes) names) || is_united (plain_changes l.changes) (map different_of l.from_ours) names) (keys_of (map different_of l.rest))
    ≡ list_all (λ names. not (is_conflict (plain_changes l.changes) names) || is_united (plain_changes l.changes) (map different_of l.from_ours) names)
    (keys_of (map different_of l.changes.between.items))

abbrev pub decreases-loop-difference : goal.decreases-loop-difference
decreases-loop-difference l = length l.rest
