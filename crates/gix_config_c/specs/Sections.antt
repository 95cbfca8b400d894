-- What edits of whole sections answer.
use Rattle.std.specs.Prelude.{◌≡◌, ◌≢◌, ◌⊎◌, ℕ, true, Option, Some, None, Result, Ok, Err}
use Rattle.gitconf_body.specs.Refusals.{header_refusal}
use Rattle.gitconf_lookups.specs.Picks.{picked}
use Rattle.gitconf_state.specs.Edits.{NewSection, RemoveSection, RenameAll, apply}
use Rattle.gitconf_state.specs.State.{State}
use Rattle.gitconf_store.specs.Edited.{IsEdited}
use Rattle.gitconf_store.specs.RenameErrors.{rename_number, rename_refusal}
use Rattle.gitconf_store.specs.declared.rename_section.Error.{Error}
use Rattle.gitconf_text.specs.HeaderErrors.{header_number}
use Rattle.gitconf_text.specs.declared.parse.section.header.Error.{Error as HeaderError}
use Rattle.gitconf_text.specs.SectionKeys.{SectionKey}

-- number 0 where the last section of the names was removed, 100 if there is none, else memory ran out
pub record IsRemoved (key : SectionKey) (old new : State) (number : ℕ) : Type 0 where
  pub done : number ≡ 0 → (picked key.section key.subsection (λ _. true) old ≢ None) × (new ≡ apply (RemoveSection key.section key.subsection (λ _. true)) old)
  pub none : number ≡ 100 → picked key.section key.subsection (λ _. true) old ≡ None
  pub short : (number ≡ 0 → ⊥) → (number ≡ 100 → ⊥) → number ≡ 27

-- the number of what came of a new section
abbrev pub new_number : Result (Unit {0}) HeaderError → ℕ
new_number (Ok _) = 0
new_number (Err refusal) = header_number refusal

-- a section was made after all others, or refused
abbrev pub IsNew : SectionKey → (old new : State) → (number : ℕ) → Type 0
IsNew key old new number = (number ≡ 27 → ⊥) → (r : Result (Unit {0}) HeaderError) × IsEdited header_refusal (NewSection key.section key.subsection) r old new × (number ≡ new_number r)

-- the number that is answered
abbrev pub answered : {T : Type 0} → Result T Error → ℕ
answered (Ok _) = 0
answered (Err refusal) = rename_number refusal

-- the sections of the key were renamed, or refused; number 101 where a name isn't text
pub record IsRenamedTo (names new_names : Option SectionKey) (old new : State) (number : ℕ) : Type 0 where
  pub told : (key new_key : SectionKey) → names ≡ Some key → new_names ≡ Some new_key → (number ≡ 27 → ⊥)
      → (r : Result (Unit {0}) Error) × IsEdited rename_refusal (RenameAll key.section key.subsection (λ _. true) new_key.section new_key.subsection) r old new × (number ≡ answered r)
  pub no_text : (names ≡ None) ⊎ (new_names ≡ None) → number ≡ 101
