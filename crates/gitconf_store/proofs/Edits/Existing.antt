-- The value of an entry that stands, set anew.
use Rattle.std.proofs.Common.{◌≡◌, ℕ, Bool, true, false, List, Option, Some, None, Result, Ok, Err, inl, inr, refl, ap, sym, subst, ◌∙◌}
use Rattle.std.specs.List.{list_any}
use Rattle.gitconf_text.specs.Names.{is_value_name}
use Rattle.gitconf_sources.specs.Key.{Key}
use Rattle.gitconf_state.specs.Lookup.{is_named, listed}
use Rattle.gitconf_state.specs.State.{State}
use Rattle.gitconf_state.specs.Editors.{OfEntryButLineEnd}
use Rattle.gitconf_body.specs.Refusals.{span_refusal}
use Rattle.gitconf_body.specs.ValuesAt.{rewritten_put}
use Rattle.gitconf_lookups.specs.declared.existing.Error.{Error as ExistingError}
use Rattle.gitconf_store.specs.declared.set_raw_value.Error.{Error}
use Rattle.gitconf_store.specs.declared.set_raw_value.Error.TheVariants.{ValueName}
use Rattle.gitconf_store.specs.Edited.{bytes_in}
use Rattle.gitconf_store.specs.Existing.{IsRewritten, IsSetExisting, IsSetWhere, rewriting}
use Rattle.gitconf_store.specs.SetErrors.{of_existing, of_span, set_refusal}
use Rattle.gitconf_lookups.specs.ValuePlaces.{IsPlace, IsValuePlace, refusal_of, value_place}
use Rattle.gitconf_lookups.proofs.ValuePlaces.{none_named, only_key_missing}
use Rattle.gitconf_store.proofs.Edits.Numbered.{entry_unnamed, set_again_err, set_again_ok}

-- the name is none
invalid_rewritten : (place : ℕ × ℕ) (key value : List ℕ) (old : State) (result : Result (Unit {0}) Error) → is_value_name key ≡ false → result ≡ Err (ValueName 6)
    → IsRewritten set_refusal OfEntryButLineEnd place key value result old old
invalid_rewritten place key value old result invalid is = subst (λ r. IsRewritten set_refusal OfEntryButLineEnd place key value r old old) (sym is)
    (entry_unnamed (Unit {0}) set_refusal (rewriting OfEntryButLineEnd place key value old) key (ValueName 6) (bytes_in place.0 (rewritten_put key value) old) old invalid refl)

-- The look-up was refused.
pub look_up_refused : (key : Key) (value : List ℕ) (old : State) (found : Result (ℕ × ℕ) ExistingError) (refusal : ExistingError) (result : Result (Unit {0}) Error)
    → found ≡ Err refusal → IsValuePlace key (λ _. true) old found → result ≡ Err (of_existing refusal) → IsSetExisting key value result old old
look_up_refused key value old found refusal result fault placed is = go (value_place key (λ _. true) old) refl (subst (IsValuePlace key (λ _. true) old) fault placed)
  where
    named : (place : ℕ × ℕ) → value_place key (λ _. true) old ≡ Some place → list_any (is_named key.section key.subsection) (listed old) ≡ true
    named place at = either (list_any (is_named key.section key.subsection) (listed old)) refl
      where
        either : (b : Bool) → list_any (is_named key.section key.subsection) (listed old) ≡ b → list_any (is_named key.section key.subsection) (listed old) ≡ true
        either true h = h
        either false h = absurd (let no = sym at ∙ none_named key (λ _. true) old h in cc)

    go : (o : Option (ℕ × ℕ)) → value_place key (λ _. true) old ≡ o → IsPlace key old (value_place key (λ _. true) old) (Err refusal) → IsSetWhere o key value result old old
    go None at p = (is ∙ ap (λ e. Err (of_existing e)) p.1, refl)
    go (Some place) at p = elim p.0 [
      | inl invalid ↦ invalid_rewritten place key.name value old result invalid
          (is ∙ ap (λ e. Err (of_existing e)) (p.1 ∙ (λ i. refusal_of (only_key_missing key.section key.subsection (listed old) (named place at) i) (invalid i))))
      | inr none ↦ absurd (let no = sym at ∙ none in cc)
    ]

-- The place was found, and the entry there written.
pub rewritten_ok : (key : Key) (value : List ℕ) (place : ℕ × ℕ) (old new : State) → IsValuePlace key (λ _. true) old (Ok place)
    → IsRewritten span_refusal OfEntryButLineEnd place key.name value (Ok tt) old new → IsSetExisting key value (Ok tt) old new
rewritten_ok key value place old new placed made = subst (λ o. IsSetWhere o key value (Ok tt) old new) (sym placed.1)
    (set_again_ok (rewriting OfEntryButLineEnd place key.name value old) key.name tt (bytes_in place.0 (rewritten_put key.name value) old) old new made)

-- It was not.
pub rewritten_err : (key : Key) (value : List ℕ) (place : ℕ × ℕ) (old new : State) (r : Result (Unit {0}) ℕ) (e : ℕ) (result : Result (Unit {0}) Error)
    → IsValuePlace key (λ _. true) old (Ok place) → r ≡ Err e → result ≡ Err (of_span e) → IsRewritten span_refusal OfEntryButLineEnd place key.name value r old new
    → IsSetExisting key value result old new
rewritten_err key value place old new r e result placed fault is made =
    subst (λ o. IsSetWhere o key value result old new) (sym placed.1) (subst (λ t. IsRewritten set_refusal OfEntryButLineEnd place key.name value t old new) (sym is)
    (set_again_err (rewriting OfEntryButLineEnd place key.name value old) key.name e (bytes_in place.0 (rewritten_put key.name value) old) old new placed.0
    (subst (λ t. IsRewritten span_refusal OfEntryButLineEnd place key.name value t old new) fault made)))
