-- Several values of existing entries: set again, deleted, and what they mean.
use Rattle.std.specs.Prelude.{◌≡◌, ◌≢◌, ◌⊎◌, ◌-◌, ◌==◌, ◌&&◌, nat_lt, if◌then◌else◌, ℕ, true, List, [], ◌∷◌, map, zip, Some, None, Result, Ok, Err, IsErr}
use Rattle.gitconf_text.specs.Names.{is_value_name}
use Rattle.gitconf_sources.specs.Key.{Key}
use Rattle.gitconf_state.specs.Edits.{DeleteAt, apply, said_in_section}
use Rattle.gitconf_state.specs.Editors.{OfEntry}
use Rattle.gitconf_state.specs.State.{State}
use Rattle.gitconf_lookups.specs.declared.existing.Error.{Error as ExistingError}
use Rattle.gitconf_store.specs.declared.set_raw_value.Error.{Error}
use Rattle.gitconf_body.specs.Done.{Cause}
use Rattle.gitconf_store.specs.Existing.{IsRewritten}
use Rattle.gitconf_store.specs.SetErrors.{of_existing, set_refusal}
use Rattle.gitconf_lookups.specs.ValuePlaces.{AreInOrder, ArePlaces, key_places, meaning_at}

-- Calls are made in turn, up to the first that is refused: those before it stay done, and its refusal is the result.
abbrev pub AreMade : {A E : Type 0} → (call : A → Result (Unit {0}) E → (old new : State) → Type 0) → List A → Result (Unit {0}) E → (old new : State) → Type 0
AreMade call [] result old new = (result ≡ Ok tt) × (new ≡ old)
AreMade call (a ∷ others) result old new =
    ((next : State) × call a (Ok tt) old next × AreMade call others result next new) ⊎ (IsErr result × call a result old new)

-- The entries at these places get these values, one after the other, up to the end of the shorter list; nothing stays of their old values.
abbrev pub AreRewritten : {E : Type 0} → (refusal : Cause → E) → (key : List ℕ) → List (ℕ × ℕ) → List (List ℕ) → Result (Unit {0}) E → (old new : State) → Type 0
AreRewritten refusal key places values result old new = AreMade (λ p. IsRewritten refusal OfEntry p.0 key p.1) (zip places values) result old new

-- The lookup of the entries was refused, and everything is as it was.
abbrev pub IsUnset : Key → List (ℕ × ℕ) → Result (Unit {0}) Error → (old new : State) → Type 0
IsUnset key places result old new =
    (refusal : ExistingError) × ArePlaces {Z = Unit {0}} key old places (Err refusal) × (result ≡ Err (of_existing refusal)) × (new ≡ old)

-- The entries were found, and get the values in order.
abbrev pub AreSet : Key → List (ℕ × ℕ) → List (List ℕ) → Result (Unit {0}) Error → (old new : State) → Type 0
AreSet key places values result old new =
    (is_value_name key.name ≡ true) × (places ≢ []) × (ordered : List (ℕ × ℕ)) × AreInOrder places ordered
    × AreRewritten set_refusal key.name ordered values result old new

-- The entries of the key get the values; or the lookup's refusal says why there is none.
abbrev pub AreSetExisting : Key → List (List ℕ) → Result (Unit {0}) Error → (old new : State) → Type 0
AreSetExisting key values result old new =
    IsUnset key (key_places key (λ _. true) old) result old new ⊎ AreSet key (key_places key (λ _. true) old) values result old new

-- what the entry at a place means; without a value it counts as empty
abbrev pub meaning_of_place : State → (place : ℕ × ℕ) → List ℕ
meaning_of_place state place = elim (said_in_section place.0 (meaning_at place.1) state) [ None ↦ [] | Some text ↦ text ]

-- what the entries at places mean, in order
abbrev pub all_meanings : List (ℕ × ℕ) → State → List (List ℕ)
all_meanings places state = map (meaning_of_place state) places

-- where an entry is after another one was removed: one place nearer to the front, if that one came before it in the same section
abbrev pub moved_up : (gone place : ℕ × ℕ) → ℕ × ℕ
moved_up gone place = (place.0, if place.0 == gone.0 && nat_lt gone.1 place.1 then place.1 - 1 else place.1)

-- the state after entries are deleted, the last one first, so that those before it keep their places
abbrev pub all_deleted : List (ℕ × ℕ) → State → State
all_deleted [] state = state
all_deleted (place ∷ places) state = apply (DeleteAt place.0 place.1) (all_deleted places state)
