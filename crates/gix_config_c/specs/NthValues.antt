-- What edits of one of a key's entries answer.
use Rattle.std.specs.Prelude.{◌≡◌, ◌<◌, ◌≤◌, ℕ, true, List, length, Result, Ok, Err}
use Rattle.gitconf_body.specs.Refusals.{span_refusal}
use Rattle.gitconf_lookups.specs.Misses.{existing_number}
use Rattle.gitconf_lookups.specs.ValuePlaces.{key_places}
use Rattle.gitconf_lookups.specs.declared.existing.Error.{Error}
use Rattle.gitconf_sources.specs.Key.{Key}
use Rattle.gitconf_state.specs.Editors.{OfEntry}
use Rattle.gitconf_state.specs.Edits.{DeleteAt, apply}
use Rattle.gitconf_state.specs.State.{State}
use Rattle.gitconf_store.specs.Existing.{IsRewritten}
use Rattle.gix_config.specs.MultiValueEditors.{AreFoundTargets}
use Rattle.gix_config.specs.Targeted.{Targeted, place_at}

-- these are the entries of the key, in order, or why there are none
abbrev pub AreOfKey : Key → State → Result Targeted Error → Type 0
AreOfKey key f r = AreFoundTargets (λ t. t) key f (key_places key (λ _. true) f) r

-- what an edit of the entries leaves and answers; where there are none, the number is that of the refusal
abbrev pub OfEntries : (done : Targeted → Type 0) → (old new : State) → (number : ℕ) → Result Targeted Error → Type 0
OfEntries done old new number (Ok found) = done found
OfEntries done old new number (Err refusal) = (number ≡ existing_number refusal) × (new ≡ old)

-- the number of what came of a value that was written
abbrev pub written_number : Result (Unit {0}) ℕ → ℕ
written_number (Ok _) = 0
written_number (Err number) = number

-- the entry at the index got the value, or was refused; 100 if none is there
pub record IsOneSet (found : Targeted) (index : ℕ) (value : List ℕ) (old new : State) (number : ℕ) : Type 0 where
  pub set : index < length found.places → (r : Result (Unit {0}) ℕ) × IsRewritten span_refusal OfEntry (place_at found.places index) found.key value r old new × (number ≡ written_number r)
  pub none : length found.places ≤ index → (number ≡ 100) × (new ≡ old)

-- the same for the entries of a key
pub record IsNthSet (key : Key) (index : ℕ) (value : List ℕ) (old new : State) (number : ℕ) : Type 0 where
  pub set : (r : Result Targeted Error) × AreOfKey key old r × OfEntries (λ found. IsOneSet found index value old new number) old new number r

-- the entry at the index was deleted; 100 if none is there
pub record IsOneDeleted (found : Targeted) (index : ℕ) (old new : State) (number : ℕ) : Type 0 where
  pub deleted : index < length found.places → (number ≡ 0) × (let place = place_at found.places index in new ≡ apply (DeleteAt place.0 place.1) old)
  pub none : length found.places ≤ index → (number ≡ 100) × (new ≡ old)

-- the same for the entries of a key
pub record IsNthDeleted (key : Key) (index : ℕ) (old new : State) (number : ℕ) : Type 0 where
  pub deleted : (r : Result Targeted Error) × AreOfKey key old r × OfEntries (λ found. IsOneDeleted found index old new number) old new number r
