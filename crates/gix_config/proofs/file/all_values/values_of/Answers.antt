use Rattle.std.proofs.Common.{rules, ◌≡◌, [], ◌∷◌, ◌++◌, map, refl, ap}
use Rattle.std.specs.Vec.Iter.{into_iter_items, into_iter_len}
use Rattle.bstr.specs.Owned.{bstring_bytes}
use Rattle.gitconf_lookups.specs.Lookups.{texts_of}
use Rattle.gix_config.proofs.Conversions.{all_done, no_items, one_done, one_refused}
use Rattle.gix_config.proofs.file.all_values.values_of.Goals as goal

pub loop-text-preserved : goal.loop-text-preserved
loop-text-preserved g c =
    let left = map bstring_bytes (into_iter_items c.loop-text.text-iterator) in
    let next = map bstring_bytes (into_iter_items c.next.new.self) in
    let value = bstring_bytes c.in-Some.text in
    let is : left ≡ value ∷ next = search rules in
    let put : c.put.new.list.items ≡ c.loop-text.values.items ++ c.in-Ok.value ∷ [] = search rules in
    record {
      can_next = tt;
      is_finite = tt;
      converting = one_done g.T.TryFrom.try_from_gives (texts_of c.args.texts) left next c.loop-text.values.items c.put.new.list.items value c.in-Ok.value
          c.loop-text.invariant.converting is (c.in-Some.text, refl, c.in-Ok.ensures) put;
    }

pub returns-in-Err : goal.returns-in-Err
returns-in-Err g c =
    let left = map bstring_bytes (into_iter_items c.loop-text.text-iterator) in
    let next = map bstring_bytes (into_iter_items c.next.new.self) in
    let value = bstring_bytes c.in-Some.text in
    let is : left ≡ value ∷ next = search rules in
    one_refused g.T.TryFrom.try_from_gives (texts_of c.args.texts) left next c.loop-text.values.items value c.in-Err.e c.loop-text.invariant.converting is (c.in-Some.text, refl, c.in-Err.ensures)

pub returns : goal.returns
returns g c =
    let left = map bstring_bytes (into_iter_items c.loop-text.text-iterator) in
    let ok = c.loop-text.text-iterator.rest.ok in
    let is : left ≡ [] = ap (map bstring_bytes) (no_items (into_iter_items c.loop-text.text-iterator) (into_iter_len c.loop-text.text-iterator) (search rules) c.in-None.ensures.steps.0) in
    all_done g.T.TryFrom.try_from_gives (texts_of c.args.texts) left c.loop-text.values.items c.loop-text.invariant.converting is
