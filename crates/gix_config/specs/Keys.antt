-- What a lookup by key finds, and what an edit by key does.
use Rattle.std.specs.Prelude.{◌≡◌, Bool, List, ℕ, Option, Some, None, Result, Ok}
use Rattle.bstr.specs.declared.bstring.BString.{BString}
use Rattle.gitconf_sources.specs.Key.{Key}
use Rattle.gitconf_sources.specs.Metadata.{Meta}
use Rattle.gitconf_state.specs.State.{State}
use Rattle.gitconf_store.specs.declared.set_raw_value.Error.{Error}
use Rattle.gitconf_state.specs.Edits.{Edit, SetRawValue}
use Rattle.gitconf_store.specs.Edited.{IsEdited}
use Rattle.gitconf_store.specs.SetErrors.{set_refusal}

-- A lookup by what may be a key: the lookup by that key, or nothing if it is not a key.
abbrev pub OfKey : {T E : Type 0} → Option Key → (Key → Type 0) → Result (Option T) E → Type 0
OfKey None found result = result ≡ Ok None
OfKey (Some key) found result = found key

-- the edit that sets a value by a key
abbrev pub set_by_key : Key → (keeps : Meta → Bool) → (value : List ℕ) → Edit
set_by_key key keeps value = SetRawValue key.section key.subsection key.name keeps value

-- a value is set by a key
abbrev pub IsSetByKey : Key → (keeps : Meta → Bool) → (value : List ℕ) → Result (Option BString) Error → (old new : State) → Type 0
IsSetByKey key keeps value result old new = IsEdited set_refusal (set_by_key key keeps value) result old new
