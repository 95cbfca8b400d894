use Rattle.std.proofs.Common.{◌≡◌, ◌++◌, map, drop}
use Rattle.std.specs.Cmp.Lexicographic.{pointwise}
use Rattle.std.specs.Option.{option_eq}
use Rattle.std.specs.Str.{bytes_eq}
use Rattle.gitconf_diff.specs.Differences.{different_of}
use Rattle.gitconf_merge.specs.Merging.{added, united}
use Rattle.gitconf_merge.specs.Unions.{values_of}
use Rattle.gitconf_merge.proofs.uniting.are_of_both.Given as goal

-- the answer for what is left of both lists is that for all
abbrev pub invariant-loop-our : goal.invariant-loop-our
invariant-loop-our l =
    pointwise (option_eq bytes_eq) (values_of (map different_of l.left))
    (values_of (map different_of (drop l.our-index l.ours)) ++ added (values_of (map different_of l.ours)) (values_of (map different_of l.theirs)))
    ≡ pointwise (option_eq bytes_eq) (values_of (map different_of l.entries)) (united (values_of (map different_of l.ours)) (values_of (map different_of l.theirs)))
