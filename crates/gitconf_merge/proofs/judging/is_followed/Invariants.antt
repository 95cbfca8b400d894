use Rattle.std.proofs.Common.{◌≡◌, map, not, drop}
use Rattle.std.specs.List.{list_all}
use Rattle.gitconf_diff.specs.Differences.{different_of}
use Rattle.gitconf_merge.specs.Changes.{follows, plain_changes, verdict_on}
use Rattle.gitconf_merge.proofs.judging.is_followed.Given as goal

-- the answer for those that are left is that for all
abbrev pub invariant-loop-difference : goal.invariant-loop-difference
invariant-loop-difference l =
    list_all (λ d. not (follows l.side l.favor (verdict_on (plain_changes l.changes) d.names))) (map different_of (drop l.difference-index l.differences))
    ≡ list_all (λ d. not (follows l.side l.favor (verdict_on (plain_changes l.changes) d.names))) (map different_of l.differences)
