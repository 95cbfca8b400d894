use Rattle.std.proofs.Common.{rules, ◌≡◌, ◌≢◌, ◌+◌, ◌-◌, ◌++◌, true, false, [], ◌∷◌, length, ap, ◌∙◌, arith}
use Rattle.std.specs.Prelude.{List}
use Rattle.gitconf_items.specs.declared.items.Item.{Item}
use Rattle.gitconf_items.specs.Items.{item_of}
use Rattle.gitconf_state.specs.Edit.{is_entry_of}
use Rattle.gitconf_lookups.specs.ValuePlaces.{value_places}
use Rattle.gitconf_views.specs.Views.{shown}
use Rattle.gitconf_lookups.proofs.Placing.{taken_more, taken_none, taken_some}
use Rattle.gitconf_lookups.proofs.ValuePlaces.{err_always, placed_first, placed_other, same_taken}
use Rattle.gitconf_lookups.proofs.places.push_places.Goals as goal

pub loop-item-init : goal.loop-item-init
loop-item-init c =
    let s = c.args.section.now in
    let all = value_places c.args.key.now (shown s) in (
      0,
      omega arith,
      taken_none c.args.found.now.items all,
    )

pub returns-in_err-put-clause-err : goal.returns-in_err-put-clause-err
returns-in_err-put-clause-err c =
    let s = c.args.section.now in
    let b = s.buffer.now in
    let key = c.args.key.now in
    let i = c.loop-item.invariant in
    let is : c.loop-item.rest.now ≡ c.in-Some.item.now ∷ c.in-Some.behind.now = search rules in
    let passes : is_entry_of key (item_of b c.in-Some.item.now) ≡ true = search rules in
    let some : value_places key (shown s) ≢ [] = taken_some c.args.found.now.items c.loop-item.found.items _ _ (value_places key (shown s)) (s.id, i.0) i.2
    (placed_first b key s.id i.0 c.loop-item.rest.now c.in-Some.behind.now c.in-Some.item.now is passes) in
    err_always c.from_residual.result some

pub loop-item-preserved-in_ok-put : goal.loop-item-preserved-in_ok-put
loop-item-preserved-in_ok-put c =
    let s = c.args.section.now in
    let b = s.buffer.now in
    let key = c.args.key.now in
    let i = c.loop-item.invariant in
    let items = s.items.now in
    let found = c.loop-item.found.items in
    let is : c.loop-item.rest.now ≡ c.in-Some.item.now ∷ c.in-Some.behind.now = search rules in
    let count = ap (λ (is : List Item). length is) is in
    let passes : is_entry_of key (item_of b c.in-Some.item.now) ≡ true = search rules in
    let at : length items - length c.loop-item.rest.now ≡ i.0 = omega (arith, i.1) in
    let put : c.put.new.list.items ≡ found ++ (s.id, length items - length c.loop-item.rest.now) ∷ [] = search rules in (
      i.0 + 1,
      omega (arith, i.1, count),
      taken_more c.args.found.now.items found c.put.new.list.items _ _ (value_places key (shown s)) (s.id, i.0) i.2
          (placed_first b key s.id i.0 c.loop-item.rest.now c.in-Some.behind.now c.in-Some.item.now is passes) (put ∙ ap (λ n. found ++ (s.id, n) ∷ []) at),
    )

pub loop-item-preserved : goal.loop-item-preserved
loop-item-preserved c =
    let s = c.args.section.now in
    let b = s.buffer.now in
    let key = c.args.key.now in
    let i = c.loop-item.invariant in
    let is : c.loop-item.rest.now ≡ c.in-Some.item.now ∷ c.in-Some.behind.now = search rules in
    let count = ap (λ (is : List Item). length is) is in
    let other : is_entry_of key (item_of b c.in-Some.item.now) ≡ false = search rules in (
      i.0 + 1,
      omega (arith, i.1, count),
      same_taken c.args.found.now.items c.loop-item.found.items _ _ (value_places key (shown s)) i.2
          (placed_other b key s.id i.0 c.loop-item.rest.now c.in-Some.behind.now c.in-Some.item.now is other),
    )
