-- What edits of a store change, by a section's place.
use Rattle.std.specs.Prelude.{◌≡◌, ℕ, zero, suc, List, [], ◌∷◌, Option, Result, IsErrAnd}
use Rattle.gitconf_state.specs.Edit.{new_section, section_with}
use Rattle.gitconf_state.specs.LineEnds.{file_line_end}
use Rattle.gitconf_state.specs.State.{State, with_last}
use Rattle.gitconf_store.specs.declared.set_raw_value.Error.{Error}
use Rattle.gitconf_store.specs.SetErrors.{set_number}
pub use Rattle.gitconf_body.specs.Growth.{UsedGrows}

-- the list with a change of the element at the place
abbrev pub update_at : {A : Type 0} → ℕ → (A → A) → List A → List A
update_at at change [] = []
update_at zero change (x ∷ xs) = change x ∷ xs
update_at (suc at) change (x ∷ xs) = x ∷ update_at at change xs

-- the state after the value was set in the section at the place
abbrev pub set_at : (at : ℕ) → (key value : List ℕ) → State → State
set_at at key value state = record state { sections = update_at at (section_with (file_line_end state) key value) state.sections }

-- the state with one more section, which has the value
abbrev pub set_new : (name : List ℕ) → (subsection : Option (List ℕ)) → (key value : List ℕ) → State → State
set_new name subsection key value state = with_last (section_with (file_line_end state) key value (new_section name subsection state)) state

-- the result is a refusal with this number
abbrev pub IsRefusal : {T : Type 0} → Result T Error → ℕ → Type 0
IsRefusal result number = IsErrAnd result (λ e. set_number e ≡ number)
