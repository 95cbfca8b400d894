use Rattle.std.proofs.Common.{rules, ◌≡◌, [], ◌∷◌, ◌++◌, map, Ok}
use Rattle.std.specs.Vec.Iter.{into_iter_items}
use Rattle.bstr.specs.Owned.{bstring_bytes}
use Rattle.gitconf_values.specs.Integers.{integer_or_refusal}
use Rattle.gitconf_lookups.specs.Lookups.{texts_of}
use Rattle.gix_config.specs.Typed.{integers_or_refusal}
use Rattle.gix_config.proofs.Integers.{one_before}
use Rattle.gix_config.proofs.file.typed.integers_of.Goals as goal

pub loop-value-preserved : goal.loop-value-preserved
loop-value-preserved c =
    let left = map bstring_bytes (into_iter_items c.loop-value.value-iterator) in
    let next = map bstring_bytes (into_iter_items c.next.new.self) in
    let value = bstring_bytes c.in-Some.value in
    let is : left ≡ value ∷ next = search rules in
    let gives : integer_or_refusal value ≡ Ok c.in_ok-decimal.field-0 = search rules in
    let put : c.put.new.list.items ≡ c.loop-value.integers.items ++ c.in_ok-decimal.field-0 ∷ [] = search rules in
    record {
      can_next = tt;
      is_finite = tt;
      told = one_before (integers_or_refusal (texts_of c.args.values)) c.loop-value.integers.items c.put.new.list.items left next value c.in_ok-decimal.field-0 c.loop-value.invariant.told is gives put;
    }
