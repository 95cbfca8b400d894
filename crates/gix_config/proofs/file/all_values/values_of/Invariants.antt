use Rattle.std.proofs.Common.{map}
use Rattle.std.specs.Vec.Iter.{into_iter_items}
use Rattle.bstr.specs.Owned.{bstring_bytes}
use Rattle.gitconf_lookups.specs.Lookups.{texts_of}
use Rattle.gix_config.proofs.Conversions.{IsConverting}
use Rattle.gix_config.proofs.file.all_values.values_of.Given as goal

-- the texts before are converted, and others are left
abbrev pub invariant-loop-text : goal.invariant-loop-text
invariant-loop-text g l = record {
  can_next : (goal.iterator-loop-text g).can_next l.text-iterator;
  is_finite : (goal.iterator-loop-text g).is_finite l.text-iterator;
  converting : IsConverting g.T.TryFrom.try_from_gives (texts_of l.fn.texts) (map bstring_bytes (into_iter_items l.text-iterator)) l.values.items;
}
