-- What is answered where entries that are there get other values.
use Rattle.std.specs.Prelude.{◌≡◌, ℕ, List, Result, Ok, Err}
use Rattle.gitconf_sources.specs.Key.{Key}
use Rattle.gitconf_state.specs.State.{State}
use Rattle.gitconf_store.specs.Existing.{IsSetExisting}
use Rattle.gitconf_store.specs.SetErrors.{set_number}
use Rattle.gitconf_store.specs.Several.{AreSetExisting}
use Rattle.gitconf_store.specs.declared.set_raw_value.Error.{Error}

-- the number of the refusal, or 0
abbrev pub set_answered : Result (Unit {0}) Error → ℕ
set_answered (Ok done) = 0
set_answered (Err refusal) = set_number refusal

-- the last entry of the key was given the value, or refused
pub record IsValueSet (key : Key) (value : List ℕ) (old new : State) (number : ℕ) : Type 0 where
  pub set : (r : Result (Unit {0}) Error) × IsSetExisting key value r old new × (number ≡ set_answered r)

-- the entries of the key were given the values, or refused
pub record AreValuesSet (key : Key) (values : List (List ℕ)) (old new : State) (number : ℕ) : Type 0 where
  pub set : (r : Result (Unit {0}) Error) × AreSetExisting key values r old new × (number ≡ set_answered r)
