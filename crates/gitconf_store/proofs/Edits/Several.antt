-- Several values of entries that stand, set anew.
use Rattle.std.proofs.Common.{◌≡◌, ℕ, true, List, [], ◌∷◌, Result, Ok, Err, inl, inr, refl, sym, subst}
use Rattle.std.specs.Prelude.{◌⊎◌, IsErr}
use Rattle.std.specs.declared.vec.Vec.{Vec}
use Rattle.gitconf_text.specs.Names.{is_value_name}
use Rattle.gitconf_sources.specs.Key.{Key}
use Rattle.gitconf_state.specs.Editors.{OfEntry}
use Rattle.gitconf_state.specs.State.{State}
use Rattle.gitconf_body.specs.Refusals.{span_refusal}
use Rattle.gitconf_lookups.specs.declared.existing.Error.{Error as ExistingError}
use Rattle.gitconf_lookups.specs.declared.existing.Error.TheVariants as errors
use Rattle.gitconf_store.specs.declared.set_raw_value.Error.{Error}
use Rattle.gitconf_body.specs.ValuesAt.{rewritten_put}
use Rattle.gitconf_store.specs.Edited.{bytes_in}
use Rattle.gitconf_store.specs.Existing.{IsRewritten, rewriting}
use Rattle.gitconf_store.specs.SetErrors.{of_existing, of_span, set_refusal}
use Rattle.gitconf_store.specs.Several.{AreRewritten, AreSetExisting}
use Rattle.gitconf_lookups.specs.ValuePlaces.{ArePlaces, AreValuePlaces, key_places}
use Rattle.gitconf_store.proofs.Edits.Numbered.{set_again_err, set_again_ok}

-- Of entries that are to get values, some of the first have them, and what the others then leave is what all of them leave.
abbrev pub GoOn : (key : List ℕ) → (places : List (ℕ × ℕ)) → (values : List (List ℕ)) → (places_left : List (ℕ × ℕ)) → (values_left : List (List ℕ)) → (old now : State) → Type 0
GoOn key places values places_left values_left old now =
    (result : Result (Unit {0}) ℕ) (new : State) → AreRewritten span_refusal key places_left values_left result now new → AreRewritten span_refusal key places values result old new

pub begun : (key : List ℕ) (places : List (ℕ × ℕ)) (values : List (List ℕ)) (old : State) → GoOn key places values places values old old
begun key places values old = λ result new made. made

-- the next entry and the next value
with_next : (key : List ℕ) (place : ℕ × ℕ) (places left : List (ℕ × ℕ)) (value : List ℕ) (values given : List (List ℕ)) (r : Result (Unit {0}) ℕ) (now new : State)
    → left ≡ place ∷ places → given ≡ value ∷ values → AreRewritten span_refusal key (place ∷ places) (value ∷ values) r now new → AreRewritten span_refusal key left given r now new
with_next key place places left value values given r now new left_is given_is made =
    subst (λ ps. AreRewritten span_refusal key ps given r now new) (sym left_is) (subst (λ vs. AreRewritten span_refusal key (place ∷ places) vs r now new) (sym given_is) made)

-- one more has its value
pub one_more : (key : List ℕ) (places : List (ℕ × ℕ)) (values : List (List ℕ)) (place : ℕ × ℕ) (others left : List (ℕ × ℕ)) (value : List ℕ) (rest given : List (List ℕ)) (old now next : State)
    → left ≡ place ∷ others → given ≡ value ∷ rest → IsRewritten span_refusal OfEntry place key value (Ok tt) now next
    → GoOn key places values left given old now → GoOn key places values others rest old next
one_more key places values place others left value rest given old now next left_is given_is made on =
    λ result new later. on result new (with_next key place others left value rest given result now new left_is given_is (inl (next, made, later)))

-- the next one was refused
pub refused : (key : List ℕ) (places : List (ℕ × ℕ)) (values : List (List ℕ)) (place : ℕ × ℕ) (others left : List (ℕ × ℕ)) (value : List ℕ) (rest given : List (List ℕ)) (old now new : State)
    (r result : Result (Unit {0}) ℕ) → IsErr r → result ≡ r → left ≡ place ∷ others → given ≡ value ∷ rest → IsRewritten span_refusal OfEntry place key value r now new
    → GoOn key places values left given old now → AreRewritten span_refusal key places values result old new
refused key places values place others left value rest given old now new r result fault is left_is given_is made on =
    subst (λ t. AreRewritten span_refusal key places values t old new) (sym is)
    (on r new (with_next key place others left value rest given r now new left_is given_is (inr (fault, made))))

-- one of the lists has ended
none_left : (key : List ℕ) (left : List (ℕ × ℕ)) (given : List (List ℕ)) (now : State) → (left ≡ []) ⊎ (given ≡ []) → AreRewritten span_refusal key left given (Ok tt) now now
none_left key [] given now none = (refl, refl)
none_left key (place ∷ left) [] now none = (refl, refl)
none_left key (place ∷ left) (value ∷ given) now (inl is) = absurd (cc)
none_left key (place ∷ left) (value ∷ given) now (inr is) = absurd (cc)

pub ended : (key : List ℕ) (places : List (ℕ × ℕ)) (values : List (List ℕ)) (left : List (ℕ × ℕ)) (given : List (List ℕ)) (old now : State) → (left ≡ []) ⊎ (given ≡ [])
    → GoOn key places values left given old now → AreRewritten span_refusal key places values (Ok tt) old now
ended key places values left given old now none on = on (Ok tt) now (none_left key left given now none)

-- A refusal of the look-up, whatever memory the places would have.
pub other_memory : (Y Z : Type 0) (key : Key) (state : State) (places : List (ℕ × ℕ)) (refusal : ExistingError) → ArePlaces {Z = Y} key state places (Err refusal)
    → ArePlaces {Z = Z} key state places (Err refusal)
other_memory Y Z key state places errors.SectionMissing r = r
other_memory Y Z key state places errors.SubSectionMissing r = r
other_memory Y Z key state places errors.KeyMissing r = r
other_memory Y Z key state places (errors.ValueName number) r = r
other_memory Y Z key state places errors.Memory r = r

pub unset : {Z : Type 0} (key : Key) (values : List (List ℕ)) (old : State) (found : Result (Vec (ℕ × ℕ) Z) ExistingError) (refusal : ExistingError) (result : Result (Unit {0}) Error)
    → found ≡ Err refusal → AreValuePlaces key (λ _. true) old found → result ≡ Err (of_existing refusal) → AreSetExisting key values result old old
unset {Z} key values old found refusal result fault placed is =
    inl (refusal, other_memory Z (Unit {0}) key old (key_places key (λ _. true) old) refusal (subst (AreValuePlaces key (λ _. true) old) fault placed), is, refl)

-- They were found: what is told with the refusals of spans is told with those of the call.
told_ok : (key : List ℕ) (places : List (ℕ × ℕ)) (values : List (List ℕ)) (old new : State)
    → AreRewritten span_refusal key places values (Ok tt) old new → AreRewritten set_refusal key places values (Ok tt) old new
told_ok key [] values old new made = (refl, made.1)
told_ok key (place ∷ places) [] old new made = (refl, made.1)
told_ok key (place ∷ places) (value ∷ values) old new (inl first) =
    inl (first.0, set_again_ok (rewriting OfEntry place key value old) key tt (bytes_in place.0 (rewritten_put key value) old) old first.0 first.1, told_ok key places values first.0 new first.2)
told_ok key (place ∷ places) (value ∷ values) old new (inr last) = absurd (let no = last.0 in cc)

told_err : (key : List ℕ) (places : List (ℕ × ℕ)) (values : List (List ℕ)) (n : ℕ) (old new : State) → is_value_name key ≡ true
    → AreRewritten span_refusal key places values (Err n) old new → AreRewritten set_refusal key places values (Err (of_span n)) old new
told_err key [] values n old new named made = absurd (let no = made.0 in cc)
told_err key (place ∷ places) [] n old new named made = absurd (let no = made.0 in cc)
told_err key (place ∷ places) (value ∷ values) n old new named (inl first) =
    inl (first.0, set_again_ok (rewriting OfEntry place key value old) key tt (bytes_in place.0 (rewritten_put key value) old) old first.0 first.1, told_err key places values n first.0 new named first.2)
told_err key (place ∷ places) (value ∷ values) n old new named (inr last) =
    inr (refl, set_again_err (rewriting OfEntry place key value old) key n (bytes_in place.0 (rewritten_put key value) old) old new named last.1)

pub set_err : {Z : Type 0} (key : Key) (values : List (List ℕ)) (found : Vec (ℕ × ℕ) Z) (old new : State) (r : Result (Unit {0}) ℕ) (e : ℕ) (result : Result (Unit {0}) Error)
    → AreValuePlaces key (λ _. true) old (Ok found) → r ≡ Err e → result ≡ Err (of_span e) → AreRewritten span_refusal key.name found.items values r old new
    → AreSetExisting key values result old new
set_err key values found old new r e result placed fault is made =
    inr (
      placed.0,
      placed.1,
      found.items,
      placed.2,
      subst (λ t. AreRewritten set_refusal key.name found.items values t old new) (sym is)
          (told_err key.name found.items values e old new placed.0 (subst (λ t. AreRewritten span_refusal key.name found.items values t old new) fault made)),
    )

pub set_ok : {Z : Type 0} (key : Key) (values : List (List ℕ)) (found : Vec (ℕ × ℕ) Z) (old new : State) (r : Result (Unit {0}) ℕ)
    → AreValuePlaces key (λ _. true) old (Ok found) → r ≡ Ok tt → AreRewritten span_refusal key.name found.items values r old new
    → AreSetExisting key values (Ok tt) old new
set_ok key values found old new r placed done made =
    inr (
      placed.0,
      placed.1,
      found.items,
      placed.2,
      told_ok key.name found.items values old new (subst (λ t. AreRewritten span_refusal key.name found.items values t old new) done made),
    )
