use Rattle.std.proofs.Common.{rules, ◌≡◌, ◌<◌, ◌≤◌, [], ◌∷◌, drop, get_or, length, map, inl, inr, ap, arith}
use Rattle.std.proofs.lemmas.List.{drop_all, drop_more}
use Rattle.gitconf_store.proofs.Edits.Several.{begun, ended, one_more, refused}
use Rattle.gitconf_lookups.proofs.ValuePlaces.{none_long}
use Rattle.gitconf_store.proofs.store.Store.rewrite_entries_at.Goals as goal

pub loop-value-init : goal.loop-value-init
loop-value-init c = begun c.args.key.now c.args.places.now (map (λ v. v.now) c.args.values.now) c.args.self.now

pub returns-in_default : goal.returns-in_default
returns-in_default c =
    let short : length c.loop-value.left.now ≡ 0 = search rules in
    ended c.args.key.now c.args.places.now (map (λ v. v.now) c.args.values.now) c.loop-value.left.now (map (λ v. v.now) (drop c.loop-value.value-index c.args.values.now)) c.args.self.now c.loop-value.self (inl (none_long c.loop-value.left.now short)) c.loop-value.invariant

pub returns-in_err-rewrite_entry_at : goal.returns-in_err-rewrite_entry_at
returns-in_err-rewrite_entry_at c =
    let values = c.args.values.now in
    let within : c.loop-value.value-index < length values = omega (arith, c.loop-value-test.true) in
    let left : c.loop-value.left.now ≡ c.in-Some.place.now ∷ c.in-Some.behind.now = search rules in
    let given = ap (map (λ v. v.now)) (drop_more values c.loop-value.value-index (record { ref_ptr = (0, 0); now = [] }) within) in
    refused c.args.key.now c.args.places.now (map (λ v. v.now) c.args.values.now) c.in-Some.place.now c.in-Some.behind.now c.loop-value.left.now _ _ _ c.args.self.now c.loop-value.self c.rewrite_entry_at.new.self c.rewrite_entry_at.result c.from_residual.result
    (search rules) (search rules) left given c.rewrite_entry_at.ensures c.loop-value.invariant

pub loop-value-preserved : goal.loop-value-preserved
loop-value-preserved c =
    let values = c.args.values.now in
    let within : c.loop-value.value-index < length values = omega (arith, c.loop-value-test.true) in
    let left : c.loop-value.left.now ≡ c.in-Some.place.now ∷ c.in-Some.behind.now = search rules in
    let given = ap (map (λ v. v.now)) (drop_more values c.loop-value.value-index _ within) in
    one_more c.args.key.now c.args.places.now (map (λ v. v.now) c.args.values.now) c.in-Some.place.now c.in-Some.behind.now c.loop-value.left.now _ _ _ c.args.self.now c.loop-value.self c.rewrite_entry_at.new.self
    left given c.in_ok-rewrite_entry_at.ensures c.loop-value.invariant

pub returns : goal.returns
returns c =
    let values = c.args.values.now in
    let past : length values ≤ c.loop-value.value-index = omega (arith, c.loop-value-test.false) in
    ended c.args.key.now c.args.places.now (map (λ v. v.now) c.args.values.now) c.loop-value.left.now (map (λ v. v.now) (drop c.loop-value.value-index c.args.values.now)) c.args.self.now c.loop-value.self (inr (ap (map (λ v. v.now)) (drop_all c.loop-value.value-index values past))) c.loop-value.invariant
