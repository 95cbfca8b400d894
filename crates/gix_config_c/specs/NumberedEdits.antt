-- What edits of sections by their places answer.
use Rattle.std.specs.Prelude.{◌≡◌, ℕ, Bool, true, false, List, if◌then◌else◌, slice_get, Option, Some, None, Result, Ok, Err, IfOk}
use Rattle.std.specs.Option.{option_map}
use Rattle.bstr.specs.Owned.{bstring_bytes}
use Rattle.bstr.specs.declared.bstring.BString.{BString}
use Rattle.gitconf_body.specs.ValueErrors.{value_number}
use Rattle.gitconf_body.specs.declared.value.Error.{Error}
use Rattle.gitconf_sources.specs.declared.source.Trust.{Trust}
use Rattle.gitconf_state.specs.Editors.{Editor, editor_of}
use Rattle.gitconf_state.specs.Edits.{Entry, Pop, Push, Raw, RemoveNumbered, Rename, SetTrust, SetValue, answer, apply}
use Rattle.gitconf_state.specs.State.{SectionState, State}
use Rattle.gitconf_text.specs.SectionKeys.{SectionKey, as_utf8}
use Rattle.gitconf_text.specs.declared.parse.section.header.Error.{Error as HeaderError}
use Rattle.gitconf_body.specs.Refusals.{header_refusal, value_refusal}
use Rattle.gitconf_store.specs.Edited.{IsEdited}
use Rattle.gix_config_c.specs.Answers.{OfSection}
use Rattle.gix_config_c.specs.Blocks.{Holds}
use Rattle.gix_config_c.specs.Entries.{IsEntryRemoved, answered}
use Rattle.gix_config_c.specs.Origins.{trust_of}
use Rattle.gix_config_c.specs.Sections.{new_number}
use Rattle.gix_config_c.specs.declared.block.Block.{Block}
use Rattle.gix_config_c.specs.declared.line.Assigned.{Assigned}
use Rattle.gix_config_c.specs.declared.line.Line.{Line}

-- what is said of the text that the bytes are; if they aren't one, the number is 101
pub record OfText (bytes : List ℕ) (number : ℕ) (said : List ℕ → Type 0) : Type 0 where
  pub text : (text : List ℕ) → as_utf8 bytes ≡ Some text → said text
  pub other : as_utf8 bytes ≡ None → number ≡ 101

-- what is said of the section at a place, counted from 0; if there is none, the number is 100
pub record AtPlace (place : ℕ) (f : State) (number : ℕ) (said : SectionState → Type 0) : Type 0 where
  pub there : (s : SectionState) → slice_get f.sections place ≡ Some s → said s
  pub nowhere : slice_get f.sections place ≡ None → number ≡ 100

-- the value of a line, if it has one
abbrev pub line_value : Line → Option (List ℕ)
line_value line = if line.has_value then Some line.value.now else None

-- the comment of a line, if it has one
abbrev pub line_comment : Line → Option (List ℕ)
line_comment line = if line.has_comment then Some line.comment.now else None

-- the line was pushed to the section of a number, by an editor that writes this, or refused
pub record IsLinePushed (section : ℕ) (editor : Editor) (name : List ℕ) (line : Line) (old new : State) (number : ℕ) : Type 0 where
  pub pushed : (r : Result (Unit {0}) Error) × IsEdited value_refusal (Push section editor name (line_value line) (line_comment line)) r old new × (number ≡ answered r)

-- the same for a section, with the blanks that it uses, if the name is text; memory may run out before
pub record IsPushedTo (s : SectionState) (line : Line) (old new : State) (number : ℕ) : Type 0 where
  pub told : OfText line.name.now number (λ name. (number ≡ 27 → ⊥) → IsLinePushed s.number (editor_of old s) name line old new number)

-- the same for the section at a place
pub record IsPushedAt (place : ℕ) (line : Line) (old new : State) (number : ℕ) : Type 0 where
  pub told : AtPlace place old number (λ s. IsPushedTo s line old new number)

-- what is told of a value that was set: whether there was one, with its raw text; or the number of the refusal
abbrev pub TellsOld : Result (Option BString) Error → (number : ℕ) → (had : Bool) → Block → Type 0
TellsOld (Ok None) number had block = (number ≡ 0) × (had ≡ false)
TellsOld (Ok (Some was)) number had block = (number ≡ 0) × (had ≡ true) × Holds (bstring_bytes was) block
TellsOld (Err refusal) number had block = number ≡ value_number refusal

-- the last entry of the name in the section of a number was given the value, or refused; there is room for what is handed out
pub record IsValueSet (section : ℕ) (editor : Editor) (name value : List ℕ) (old new : State) (number : ℕ) (had : Bool) (block : Block) : Type 0 where
  pub set : (number ≡ 27 → ⊥) → (r : Result (Option BString) Error) × IsEdited value_refusal (SetValue section editor name value) r old new
      × IfOk r (λ was. ◌≡◌ (Raw (option_map bstring_bytes was)) (answer (SetValue section editor name value) old)) × TellsOld r number had block

-- the same for a section, with the blanks that it uses, if the name is text
pub record IsSetIn (s : SectionState) (assigned : Assigned) (old new : State) (number : ℕ) (had : Bool) (block : Block) : Type 0 where
  pub told : OfText assigned.name.now number (λ name. IsValueSet s.number (editor_of old s) name assigned.value.now old new number had block)

-- the same for the section at a place
pub record IsSetAt (place : ℕ) (assigned : Assigned) (old new : State) (number : ℕ) (had : Bool) (block : Block) : Type 0 where
  pub told : AtPlace place old number (λ s. IsSetIn s assigned old new number had block)

-- the last entry of the name was removed from the section, if the name is text
pub record IsRemovedFrom (s : SectionState) (name : List ℕ) (old new : State) (number : ℕ) (block : Block) : Type 0 where
  pub told : OfText name number (λ name. IsEntryRemoved s.number name old new number block)

-- the same for the section at a place
pub record IsRemovedAt (place : ℕ) (name : List ℕ) (old new : State) (number : ℕ) (block : Block) : Type 0 where
  pub told : AtPlace place old number (λ s. IsRemovedFrom s name old new number block)

-- Number 0 where the last entry was removed from the section of a number, and the blocks hold its name as it is spelled and what its value
-- means; 100 where there was none, and all that the section had is removed; else memory ran out, and nothing changed.
pub record IsPopped (section : ℕ) (old new : State) (number : ℕ) (name value : Block) : Type 0 where
  pub done : number ≡ 0 → (new ≡ apply (Pop section) old)
      × ((key text : List ℕ) × (answer (Pop section) old ≡ Entry (Some (key, text))) × Holds key name × Holds text value)
  pub none : number ≡ 100 → (new ≡ apply (Pop section) old) × (answer (Pop section) old ≡ Entry None)
  pub short : (number ≡ 0 → ⊥) → (number ≡ 100 → ⊥) → (number ≡ 27) × (new ≡ old)

-- the same for the section at a place
pub record IsPoppedAt (place : ℕ) (old new : State) (number : ℕ) (name value : Block) : Type 0 where
  pub told : AtPlace place old number (λ s. IsPopped s.number old new number name value)

-- a section was given the name and the subsection, or refused, if the name is text; memory may run out before
pub record IsRenamedAs (s : SectionState) (names : Option SectionKey) (old new : State) (number : ℕ) : Type 0 where
  pub told : OfSection names number (λ key. (number ≡ 27 → ⊥)
      → (r : Result (Unit {0}) HeaderError) × IsEdited header_refusal (Rename s.number key.section key.subsection) r old new × (number ≡ new_number r))

-- the same for the section at a place
pub record IsRenamedAt (place : ℕ) (names : Option SectionKey) (old new : State) (number : ℕ) : Type 0 where
  pub told : AtPlace place old number (λ s. IsRenamedAs s names old new number)

-- number 0 where the section of a number was removed; else memory ran out
pub record IsGone (section : ℕ) (old new : State) (number : ℕ) : Type 0 where
  pub done : number ≡ 0 → new ≡ apply (RemoveNumbered section) old
  pub short : (number ≡ 0 → ⊥) → number ≡ 27

-- the same for the section at a place
pub record IsGoneAt (place : ℕ) (old new : State) (number : ℕ) : Type 0 where
  pub told : AtPlace place old number (λ s. IsGone s.number old new number)

-- what is said of the trust that has the number; 104 if none has it
pub record OfTrust (given number : ℕ) (said : Trust → Type 0) : Type 0 where
  pub trust : (trust : Trust) → trust_of given ≡ Some trust → said trust
  pub other : trust_of given ≡ None → number ≡ 104

-- number 0 where the section is trusted so from then on; 104 if no trust has the number, else memory ran out
pub record IsTrusted (s : SectionState) (trust : ℕ) (old new : State) (number : ℕ) : Type 0 where
  pub told : OfTrust trust number (λ trust. (number ≡ 0 → new ≡ apply (SetTrust s.number trust) old) × ((number ≡ 0 → ⊥) → number ≡ 27))

-- the same for the section at a place
pub record IsTrustedAt (place trust : ℕ) (old new : State) (number : ℕ) : Type 0 where
  pub told : AtPlace place old number (λ s. IsTrusted s trust old new number)
