use Rattle.std.proofs.Common.{◌≡◌, ◌++◌, map}
use Rattle.std.specs.Vec.Iter.{into_iter_items}
use Rattle.gitconf_lookups.specs.Lookups.{shown_with}
use Rattle.gitconf_views.specs.Views.{shown}
use Rattle.gix_config.proofs.Conversions.{IsConverting}
use Rattle.gix_config.proofs.file.all_values.values_with_sections_of.Given as goal

-- the texts before are converted, each beside its section, and others are left
abbrev pub invariant-loop-text : goal.invariant-loop-text
invariant-loop-text g l = record {
  can_next : (goal.iterator-loop-text g).can_next l.text-iterator;
  is_finite : (goal.iterator-loop-text g).is_finite l.text-iterator;
  converting : IsConverting g.T.TryFrom.try_from_gives (map (λ v. v.0) (map shown_with l.fn.found.items)) (map (λ v. v.0) (map shown_with (into_iter_items l.text-iterator))) (map (λ f. f.0) l.values.items);
  sections : map (λ v. v.1) (map shown_with l.fn.found.items) ≡ map (λ f. shown f.1) l.values.items ++ map (λ v. v.1) (map shown_with (into_iter_items l.text-iterator));
}
