use Rattle.std.proofs.Common.{rules, ◌≡◌, ◌∷◌, length, map, inl, ap}
use Rattle.gitconf_store.proofs.Edits.Several.{begun, ended, one_more, refused}
use Rattle.gitconf_lookups.proofs.ValuePlaces.{none_long}
use Rattle.gitconf_store.proofs.store.Store.rewrite_all_entries_at.Goals as goal

pub loop-place-init : goal.loop-place-init
loop-place-init c = begun c.args.key.now c.args.places.now (map (λ _. c.args.value.now) c.args.places.now) c.args.self.now

pub returns-in_err-rewrite_entry_at : goal.returns-in_err-rewrite_entry_at
returns-in_err-rewrite_entry_at c =
    let left : c.loop-place.left.now ≡ c.in-Some.place.now ∷ c.in-Some.behind.now = search rules in
    refused c.args.key.now c.args.places.now (map (λ _. c.args.value.now) c.args.places.now) c.in-Some.place.now c.in-Some.behind.now c.loop-place.left.now c.args.value.now (map (λ _. c.args.value.now) c.in-Some.behind.now) _
    c.args.self.now c.loop-place.self c.rewrite_entry_at.new.self c.rewrite_entry_at.result c.from_residual.result
    (search rules) (search rules) left (ap (map (λ _. c.args.value.now)) left) c.rewrite_entry_at.ensures c.loop-place.invariant

pub loop-place-preserved : goal.loop-place-preserved
loop-place-preserved c =
    let left : c.loop-place.left.now ≡ c.in-Some.place.now ∷ c.in-Some.behind.now = search rules in
    one_more c.args.key.now c.args.places.now (map (λ _. c.args.value.now) c.args.places.now) c.in-Some.place.now c.in-Some.behind.now c.loop-place.left.now c.args.value.now (map (λ _. c.args.value.now) c.in-Some.behind.now) _
    c.args.self.now c.loop-place.self c.rewrite_entry_at.new.self
    left (ap (map (λ _. c.args.value.now)) left) c.in_ok-rewrite_entry_at.ensures c.loop-place.invariant

pub returns : goal.returns
returns c =
    let short : length c.loop-place.left.now ≡ 0 = search rules in
    ended c.args.key.now c.args.places.now (map (λ _. c.args.value.now) c.args.places.now) c.loop-place.left.now (map (λ _. c.args.value.now) c.loop-place.left.now) c.args.self.now c.loop-place.self (inl (none_long c.loop-place.left.now short)) c.loop-place.invariant
