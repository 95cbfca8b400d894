-- Setting the value of an existing entry.
use Rattle.std.specs.Prelude.{◌≡◌, ℕ, true, List, Option, Some, None, Result, Err}
use Rattle.gitconf_text.specs.Names.{is_value_name}
use Rattle.gitconf_sources.specs.Key.{Key}
use Rattle.gitconf_state.specs.Edits.{Edit, WriteAt}
use Rattle.gitconf_state.specs.Editors.{InsteadOf, OfEntryButLineEnd}
use Rattle.gitconf_state.specs.State.{State}
use Rattle.gitconf_store.specs.declared.set_raw_value.Error.{Error}
use Rattle.gitconf_body.specs.Done.{Cause}
use Rattle.gitconf_body.specs.ValuesAt.{rewritten_put}
use Rattle.gitconf_store.specs.Edited.{IsWritten, bytes_in}
use Rattle.gitconf_lookups.specs.Lookups.{miss_at}
use Rattle.gitconf_store.specs.SetErrors.{of_existing, set_refusal}
use Rattle.gitconf_lookups.specs.ValuePlaces.{editor_of_numbered, refusal_of, value_place}

-- the entry at a place is rewritten, with this name and the blanks of its section
abbrev pub rewriting : (instead : InsteadOf) → (place : ℕ × ℕ) → (key value : List ℕ) → State → Edit
rewriting instead place key value state = WriteAt place.0 (editor_of_numbered place.0 state) place.1 instead key value

-- How it is done, by its edit and its bytes: those of the blanks are in the buffer.
abbrev pub IsRewritten : {E : Type 0} → (refusal : Cause → E) → (instead : InsteadOf) → (place : ℕ × ℕ) → (key value : List ℕ)
    → Result (Unit {0}) E → (old new : State) → Type 0
IsRewritten refusal instead place key value result old new =
    IsWritten refusal key (bytes_in place.0 (rewritten_put key value) old) (rewriting instead place key value old) result old new

-- setting the value, if an entry of the key was found at this place, and if none was; the line ending of its value that keeps a comment off it stays
abbrev pub IsSetWhere : Option (ℕ × ℕ) → Key → (value : List ℕ) → Result (Unit {0}) Error → (old new : State) → Type 0
IsSetWhere None key value result old new = (result ≡ Err (of_existing (refusal_of (miss_at key old) (is_value_name key.name)))) × (new ≡ old)
IsSetWhere (Some place) key value result old new = IsRewritten set_refusal OfEntryButLineEnd place key.name value result old new

-- The last entry of the key gets the value, whether it has `=` or not; or the lookup's refusal says why there is none.
abbrev pub IsSetExisting : Key → (value : List ℕ) → Result (Unit {0}) Error → (old new : State) → Type 0
IsSetExisting key value result old new = IsSetWhere (value_place key (λ _. true) old) key value result old new
