-- What is appended to a file.
use Rattle.std.specs.Prelude.{◌≡◌, ℕ, Result, Ok, Err}
use Rattle.gitconf_body.specs.Refusals.{span_refusal}
use Rattle.gitconf_state.specs.Edits.{Append}
use Rattle.gitconf_state.specs.State.{State}
use Rattle.gitconf_store.specs.Edited.{IsEdited}

-- the number that is answered: 0, or that of the refusal
abbrev pub appended_number : Result (Unit {0}) ℕ → ℕ
appended_number (Ok done) = 0
appended_number (Err number) = number

-- The other file was appended, or refused; or memory ran out.
pub record IsAppended (other old new : State) (number : ℕ) : Type 0 where
  pub told : (number ≡ 27 → ⊥) → (r : Result (Unit {0}) ℕ) × IsEdited span_refusal (Append other) r old new × (number ≡ appended_number r)
