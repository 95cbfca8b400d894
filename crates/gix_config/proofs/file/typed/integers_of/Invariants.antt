use Rattle.std.proofs.Common.{◌≡◌, map}
use Rattle.std.specs.Vec.Iter.{into_iter_items}
use Rattle.bstr.specs.Owned.{bstring_bytes}
use Rattle.gitconf_lookups.specs.Lookups.{texts_of}
use Rattle.gix_config.specs.Typed.{integers_or_refusal}
use Rattle.gix_config.proofs.Integers.{behind}
use Rattle.gix_config.proofs.file.typed.integers_of.Given as goal

-- the integers of the values before, and the values that are left
abbrev pub invariant-loop-value : goal.invariant-loop-value
invariant-loop-value l = record {
  can_next : (goal.iterator-loop-value).can_next l.value-iterator;
  is_finite : (goal.iterator-loop-value).is_finite l.value-iterator;
  told : integers_or_refusal (texts_of l.fn.values) ≡ behind l.integers.items (integers_or_refusal (map bstring_bytes (into_iter_items l.value-iterator)));
}
