use Rattle.std.proofs.Common.{rules, true, map}
use Rattle.std.proofs.lemmas.Fn.{always_returns_same}
use Rattle.gitconf_sources.specs.Key.{key_of}
use Rattle.gitconf_body.specs.Refusals.{span_refusal}
use Rattle.gitconf_store.specs.Several.{AreRewritten}
use Rattle.gitconf_store.proofs.Edits.Several.{set_err, set_ok, unset}
use Rattle.gitconf_store.proofs.store.Store.set_existing_raw_multi_value.Goals as goal

pub returns-in_err-places : goal.returns-in_err-places
returns-in_err-places c =
    let key = key_of c.args.key in
    let placed = c.value_places_filter.ensures.filtered.exact (λ _. true) (always_returns_same _ _ _ (λ a r f' k. search rules)) in
    unset key (map (λ v. v.now) c.args.new_values.now) c.args.self.now c.value_places_filter.result c.in_err-places.field-0.0 c.from_residual.result (search rules) placed (search rules)

pub returns-in_err-rewrite_entries_at : goal.returns-in_err-rewrite_entries_at
returns-in_err-rewrite_entries_at c =
    let key = key_of c.args.key in
    let values = map (λ v. v.now) c.args.new_values.now in
    let placed = c.in_ok-places.ensures.filtered.exact (λ _. true) (always_returns_same _ _ _ (λ a r f' k. search rules)) in
    let done : AreRewritten span_refusal key.name c.in_ok-places.places.items values c.rewrite_entries_at.result c.args.self.now c.rewrite_entries_at.new.self = search rules in
    set_err key values c.in_ok-places.places c.args.self.now c.rewrite_entries_at.new.self c.rewrite_entries_at.result c.in_err-rewrite_entries_at.field-0.0
    c.from_residual-in_err-rewrite_entries_at.result placed (search rules) (search rules) done

pub returns : goal.returns
returns c =
    let key = key_of c.args.key in
    let values = map (λ v. v.now) c.args.new_values.now in
    let placed = c.in_ok-places.ensures.filtered.exact (λ _. true) (always_returns_same _ _ _ (λ a r f' k. search rules)) in
    let done : AreRewritten span_refusal key.name c.in_ok-places.places.items values c.rewrite_entries_at.result c.args.self.now c.rewrite_entries_at.new.self = search rules in
    set_ok key values c.in_ok-places.places c.args.self.now c.rewrite_entries_at.new.self c.rewrite_entries_at.result placed (search rules) done
