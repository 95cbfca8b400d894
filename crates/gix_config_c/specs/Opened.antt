-- What is opened of a text, and how it is refused.
use Rattle.std.specs.Prelude.{◌≡◌, ◌-◌, ℕ, Bool, List, length, take, Option, Some}
use Rattle.gitconf_sources.specs.Metadata.{Meta, api_meta}
use Rattle.gix_config_c.specs.Columns.{column_behind}
use Rattle.gix_config_c.specs.declared.fault.Fault.{Fault}
use Rattle.gix_config_c.specs.declared.object.Object.{Object}
use Rattle.gix_config_c.specs.declared.object.Object.TheVariants.{File}
use Rattle.gitconf_read.specs.EventResult.{IsRefused}
use Rattle.gitconf_read.specs.ParseError.{Refusal}
use Rattle.gitconf_state.specs.Made.{IsMade}
use Rattle.gitconf_state.specs.State.{State, document_of}
use Rattle.gitconf_text.specs.Document.{IsText, Reads}
use Rattle.gitconf_text.specs.Part.{Part}
use Rattle.gix_config.specs.Made.{loaded_tokens}

-- the file of a text that comes from somewhere, without blanks, line endings and comments if it is lossy
pub record IsFileFrom (meta : Meta) (lossy : Bool) (text : List ℕ) (f : State) : Type 0 where
  pub document : Reads text (document_of f)
  pub made : (parts : List Part) × IsText text parts × IsMade (loaded_tokens lossy parts) meta (length text) f

-- that of a text of the calling program's own
abbrev pub IsFileOf : (lossy : Bool) (text : List ℕ) → State → Type 0
IsFileOf lossy text f = IsFileFrom api_meta lossy text f

-- where the text can't be read on: as many bytes of it are left there as the refusal has
pub record IsPlace (text : List ℕ) (refusal : Refusal) (place : Fault) : Type 0 where
  pub line : place.line ≡ refusal.line
  pub offset : place.offset ≡ length text - length refusal.data
  pub column : place.column ≡ column_behind (take place.offset text)

-- the place is as it was
abbrev pub IsKeptPlace : (old new : Fault) → Type 0
IsKeptPlace old new = (new.line ≡ old.line) × (new.column ≡ old.column) × (new.offset ≡ old.offset)

-- Number 0 where the handle has the file of the text; 1 or 2 where the text is refused, at the place; else memory ran out.
pub record IsOpened (meta : Meta) (lossy : Bool) (text : List ℕ) (number : ℕ) (it : Option Object) (place : Fault) : Type 0 where
  pub done : number ≡ 0 → (f : State) × (it ≡ Some (File f)) × IsFileFrom meta lossy text f
  pub refused : (number ≡ 0 → ⊥) → (number ≡ 27 → ⊥) → (r : Refusal) × IsRefused text r × (number ≡ r.number) × IsPlace text r place
