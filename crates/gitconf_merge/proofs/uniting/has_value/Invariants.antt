use Rattle.std.proofs.Common.{◌≡◌, map, drop}
use Rattle.gitconf_diff.specs.Differences.{different_of}
use Rattle.gitconf_merge.specs.Merging.{has_value}
use Rattle.gitconf_merge.specs.Unions.{values_of}
use Rattle.gitconf_merge.proofs.uniting.has_value.Given as goal

-- the answer for those that are left is that for all
abbrev pub invariant-loop-entry : goal.invariant-loop-entry
invariant-loop-entry l =
    has_value (values_of (map different_of (drop l.entry-index l.entries))) (different_of l.other).value ≡ has_value (values_of (map different_of l.entries)) (different_of l.other).value
