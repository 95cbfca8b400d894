use Rattle.std.proofs.Common.{rules, true, Ok, subst}
use Rattle.std.proofs.lemmas.Fn.{always_returns_same}
use Rattle.gitconf_sources.specs.Key.{key_of}
use Rattle.gitconf_body.specs.Refusals.{span_refusal}
use Rattle.gitconf_state.specs.Editors.{OfEntryButLineEnd}
use Rattle.gitconf_store.specs.Existing.{IsRewritten}
use Rattle.gitconf_store.proofs.Edits.Existing.{look_up_refused, rewritten_err, rewritten_ok}
use Rattle.gitconf_store.proofs.store.Store.set_existing_raw_value.Goals as goal

pub returns-in_err-place : goal.returns-in_err-place
returns-in_err-place c =
    let key = key_of c.args.key in
    let placed = c.value_place_filter.ensures.filtered.exact (λ _. true) (always_returns_same _ _ _ (λ a r f' k. search rules)) in
    look_up_refused key c.args.new_value.now c.args.self.now c.value_place_filter.result c.in_err-place.field-0.0 c.from_residual.result (search rules) placed (search rules)

pub returns-in_err-rewrite_entry_at : goal.returns-in_err-rewrite_entry_at
returns-in_err-rewrite_entry_at c =
    let key = key_of c.args.key in
    let placed = c.in_ok-place.ensures.filtered.exact (λ _. true) (always_returns_same _ _ _ (λ a r f' k. search rules)) in
    rewritten_err key c.args.new_value.now c.in_ok-place.place c.args.self.now c.rewrite_entry_at.new.self c.rewrite_entry_at.result c.in_err-rewrite_entry_at.field-0.0
    c.from_residual-in_err-rewrite_entry_at.result placed (search rules) (search rules)
    (subst (λ k. IsRewritten span_refusal OfEntryButLineEnd c.in_ok-place.place k c.args.new_value.now c.rewrite_entry_at.result c.args.self.now c.rewrite_entry_at.new.self)
    c.as_bytes.ensures.value c.rewrite_entry_at.ensures)

pub returns : goal.returns
returns c =
    let key = key_of c.args.key in
    let placed = c.in_ok-place.ensures.filtered.exact (λ _. true) (always_returns_same _ _ _ (λ a r f' k. search rules)) in
    rewritten_ok key c.args.new_value.now c.in_ok-place.place c.args.self.now c.rewrite_entry_at.new.self placed
    (subst (λ k. IsRewritten span_refusal OfEntryButLineEnd c.in_ok-place.place k c.args.new_value.now (Ok tt) c.args.self.now c.rewrite_entry_at.new.self)
    c.as_bytes.ensures.value c.in_ok-rewrite_entry_at.ensures)
