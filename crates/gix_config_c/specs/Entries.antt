-- What edits of entries answer.
use Rattle.std.specs.Prelude.{◌≡◌, ℕ, true, List, Option, Some, None, Result, Ok, Err}
use Rattle.gitconf_sources.specs.Key.{Key}
use Rattle.gitconf_lookups.specs.Misses.{existing_number, missing}
use Rattle.gitconf_lookups.specs.Picks.{picked}
use Rattle.gix_config_c.specs.Blocks.{Holds}
use Rattle.gix_config_c.specs.declared.block.Block.{Block}
use Rattle.gitconf_body.specs.declared.value.Error.{Error}
use Rattle.gitconf_state.specs.Edits.{Push, Raw, Remove, answer, apply}
use Rattle.gitconf_state.specs.Editors.{Editor, editor_of}
use Rattle.gitconf_state.specs.Lookup.{listed, miss_of}
use Rattle.gitconf_state.specs.State.{SectionState, State}
use Rattle.gitconf_body.specs.Refusals.{value_refusal}
use Rattle.gitconf_store.specs.Edited.{IsEdited}
use Rattle.gitconf_body.specs.ValueErrors.{value_number}

-- the section whose entries a key is about: the last one of its names
abbrev pub section_of : Key → State → Option SectionState
section_of key f = picked key.section key.subsection (λ _. true) f

-- the number where there is no such section
abbrev pub missing_number : Key → State → ℕ
missing_number key f = existing_number (missing (miss_of key.section key.subsection (listed f)))

-- the number that is answered
abbrev pub answered : {T : Type 0} → Result T Error → ℕ
answered (Ok _) = 0
answered (Err refusal) = value_number refusal

-- an entry was put into the section of a number, by an editor that writes this, or refused
pub record IsEntryPushed (section : ℕ) (editor : Editor) (name : List ℕ) (value : Option (List ℕ)) (old new : State) (number : ℕ) : Type 0 where
  pub pushed : (r : Result (Unit {0}) Error) × IsEdited value_refusal (Push section editor name value None) r old new × (number ≡ answered r)

-- the same for the section of a key, with the blanks that the section uses
pub record IsPushed (key : Key) (value : Option (List ℕ)) (old new : State) (number : ℕ) : Type 0 where
  pub nowhere : section_of key old ≡ None → number ≡ missing_number key old
  pub pushed : (s : SectionState) → section_of key old ≡ Some s → (number ≡ 27 → ⊥) → IsEntryPushed s.number (editor_of old s) key.name value old new number

-- Number 0 where the last entry of the name was removed from the section of a number, and the block holds the raw text of its value; 100
-- where there was none to remove; else memory ran out, and nothing changed.
pub record IsEntryRemoved (section : ℕ) (name : List ℕ) (old new : State) (number : ℕ) (block : Block) : Type 0 where
  pub done : number ≡ 0 → (new ≡ apply (Remove section name) old) × ((raw : List ℕ) × (answer (Remove section name) old ≡ Raw (Some raw)) × Holds raw block)
  pub none : number ≡ 100 → (new ≡ apply (Remove section name) old) × (answer (Remove section name) old ≡ Raw None)
  pub short : (number ≡ 0 → ⊥) → (number ≡ 100 → ⊥) → (number ≡ 27) × (new ≡ old)

-- the same for the section of a key
pub record IsValueRemoved (key : Key) (old new : State) (number : ℕ) (block : Block) : Type 0 where
  pub nowhere : section_of key old ≡ None → (number ≡ missing_number key old) × (new ≡ old)
  pub there : (s : SectionState) → section_of key old ≡ Some s → IsEntryRemoved s.number key.name old new number block
