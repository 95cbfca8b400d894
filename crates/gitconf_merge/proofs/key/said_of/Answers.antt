use Rattle.std.proofs.Common.{rules}
use Rattle.std.specs.Ordering.{is_le, is_lt}
use Rattle.std.proofs.lemmas.List.Sorted.{IsPartitionPoint-from_clause}
use Rattle.gitconf_merge.specs.Keys.{plain_names}
use Rattle.gitconf_merge.proofs.Ranges.{IsEnd, IsFirst, Place, are_ordered, parted_at_first, parted_behind, place_cmp, place_of, said}
use Rattle.gitconf_merge.proofs.key.said_of.Goals as goal

abbrev place : goal.After-partition_point-end → Place
place c = (plain_names c.args.names, c.args.side)

least : (c : goal.After-partition_point-end) → IsFirst c.args.differences.now (place c) c.partition_point-first.result
least c = IsPartitionPoint-from_clause (λ d. is_lt (place_cmp (place_of d) (place c))) c.args.differences.now c.partition_point-first.result
    c.partition_point-first.ensures.partitioned (parted_at_first c.args.differences.now c.requires (place c)) (λ a r f k. search rules)

most : (c : goal.After-partition_point-end) → IsEnd c.args.differences.now (place c) c.partition_point-end.result
most c = IsPartitionPoint-from_clause (λ d. is_le (place_cmp (place_of d) (place c))) c.args.differences.now c.partition_point-end.result
    c.partition_point-end.ensures.partitioned (parted_behind c.args.differences.now c.requires (place c)) (λ a r f k. search rules)

pub slice_bounds-result-count : goal.slice_bounds-result-count
slice_bounds-result-count c =
    are_ordered c.args.differences.now (place c) c.partition_point-first.result c.partition_point-end.result (least c) (most c)
    c.partition_point-first.ensures.bound c.partition_point-end.ensures.bound

pub slice_bounds-result-start : goal.slice_bounds-result-start
slice_bounds-result-start c = let ordered = slice_bounds-result-count c in search rules

pub returns : goal.returns
returns c =
    said c.args.differences.now (place c.before) c.partition_point-first.result c.partition_point-end.result (least c.before) (most c.before)
    c.partition_point-first.ensures.bound c.partition_point-end.ensures.bound
