-- What is answered where lines are put into sections by their places, and where several entries are removed.
use Rattle.std.specs.Prelude.{◌≡◌, ℕ, Bool, List, Some, Result, Ok, Err}
use Rattle.gitconf_body.specs.Refusals.{span_refusal, value_refusal}
use Rattle.gitconf_body.specs.declared.value.Error.{Error}
use Rattle.gitconf_state.specs.Editors.{Editor, editor_of}
use Rattle.gitconf_state.specs.Edits.{Count, PushAfterLast, PushLineEnd, RemoveMarked, answer, apply}
use Rattle.gitconf_state.specs.State.{SectionState, State}
use Rattle.gitconf_store.specs.Edited.{IsEdited}
use Rattle.gix_config_c.specs.Entries.{answered}
use Rattle.gix_config_c.specs.NumberedEdits.{AtPlace, OfText}
use Rattle.gix_config_c.specs.declared.line.Assigned.{Assigned}

-- the entry was put below the last one of the section of a number, by an editor that writes this, or refused
pub record IsPutBelow (section : ℕ) (editor : Editor) (name value : List ℕ) (old new : State) (number : ℕ) : Type 0 where
  pub put : (r : Result (Unit {0}) Error) × IsEdited value_refusal (PushAfterLast section editor name (Some value)) r old new × (number ≡ answered r)

-- the same for a section, with the blanks that it uses, if the name is text; memory may run out before
pub record IsPutIn (s : SectionState) (assigned : Assigned) (old new : State) (number : ℕ) : Type 0 where
  pub told : OfText assigned.name.now number (λ name. (number ≡ 27 → ⊥) → IsPutBelow s.number (editor_of old s) name assigned.value.now old new number)

-- the same for the section at a place
pub record IsPutAt (place : ℕ) (assigned : Assigned) (old new : State) (number : ℕ) : Type 0 where
  pub told : AtPlace place old number (λ s. IsPutIn s assigned old new number)

-- the number of a refusal that is a number, or 0
abbrev pub span_answered : Result (Unit {0}) ℕ → ℕ
span_answered (Ok done) = 0
span_answered (Err refusal) = refusal

-- a line ending was put after all that the section of a number has, or refused
pub record IsLineEndPushed (section : ℕ) (editor : Editor) (old new : State) (number : ℕ) : Type 0 where
  pub pushed : (r : Result (Unit {0}) ℕ) × IsEdited span_refusal (PushLineEnd section editor) r old new × (number ≡ span_answered r)

-- the same for the section at a place; memory may run out before
pub record IsLineEndPushedAt (place : ℕ) (old new : State) (number : ℕ) : Type 0 where
  pub told : AtPlace place old number (λ s. (number ≡ 27 → ⊥) → IsLineEndPushed s.number (editor_of old s) old new number)

-- the marked entries of the name were removed from the section of a number, so many; else memory ran out
pub record AreRemoved (section : ℕ) (name : List ℕ) (marks : List Bool) (old new : State) (number count : ℕ) : Type 0 where
  pub done : number ≡ 0 → (new ≡ apply (RemoveMarked section name marks) old) × (Count count ≡ answer (RemoveMarked section name marks) old)
  pub short : (number ≡ 0 → ⊥) → number ≡ 27

-- the same for a section, if the name is text
pub record AreRemovedFrom (s : SectionState) (name : List ℕ) (marks : List Bool) (old new : State) (number count : ℕ) : Type 0 where
  pub told : OfText name number (λ name. AreRemoved s.number name marks old new number count)

-- the same for the section at a place
pub record AreRemovedAt (place : ℕ) (name : List ℕ) (marks : List Bool) (old new : State) (number count : ℕ) : Type 0 where
  pub told : AtPlace place old number (λ s. AreRemovedFrom s name marks old new number count)
