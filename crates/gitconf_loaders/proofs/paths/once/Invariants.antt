use Rattle.std.proofs.Common.{◌≡◌, ℕ, List, [], ◌++◌}
use Rattle.std.specs.Vec.Iter.{into_iter_items}
use Rattle.gitconf_loaders.specs.Paths.{Sees}
use Rattle.gitconf_loaders.specs.Paths as spec
use Rattle.gitconf_loaders.proofs.paths.once.Given as goal

abbrev pub invariant-loop-meta : goal.invariant-loop-meta
invariant-loop-meta l = record {
  can_next : goal.iterator-loop-meta.can_next l.meta-iterator;
  is_finite : goal.iterator-loop-meta.is_finite l.meta-iterator;
  kept : (before : List (List ℕ)) × Sees l.seen before × (l.kept.items ++ spec.once before (into_iter_items l.meta-iterator) ≡ spec.once [] l.fn.metas.items);
}
