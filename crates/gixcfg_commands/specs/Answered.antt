-- What becomes of a text by an edit: what is printed of the edited file, or why there is nothing.
use Rattle.std.specs.Prelude.{◌≡◌, ◌⊎◌, ℕ, List, Option, Some, None, Result, Ok, Err}
use Rattle.gitconf_state.specs.Edit.{with_used}
use Rattle.gitconf_state.specs.Printing.{printed}
use Rattle.gitconf_state.specs.State.{State}
use Rattle.gixcfg_commands.specs.Beginnings.{marked}
use Rattle.gixcfg_core.specs.declared.trouble.Trouble.{Trouble}
use Rattle.gixcfg_core.specs.declared.trouble.Trouble.TheVariants.{Memory}

-- a text that is made of a file, behind the mark of the text that the file was read from
abbrev pub marked_answer : (before : List ℕ) → Result (List ℕ) Trouble → Result (List ℕ) Trouble
marked_answer before (Ok text) = Ok (marked before text)
marked_answer before (Err trouble) = Err trouble

-- An edit of a file is done, and the file is then what this makes of it, but for the bytes of its buffer; or it is refused for that reason; else memory ran out.
abbrev pub IsCarriedOut : (refusal : Option Trouble) (done : State → State) → Result (Unit {0}) Trouble → (old new : State) → Type 0
IsCarriedOut refusal done (Ok _) old new = (refusal ≡ None) × (new ≡ with_used new.used (done old))
IsCarriedOut refusal done (Err trouble) old new = (trouble ≡ Memory) ⊎ (refusal ≡ Some trouble)

-- what is printed of an edited file, or why there is nothing
abbrev pub edited_text : (refusal : Option Trouble) (done : State → State) → State → Result (List ℕ) Trouble
edited_text (Some trouble) done file = Err trouble
edited_text None done file = Ok (printed (done file))

-- a test passes, or this is why it doesn't
abbrev pub IsChecked : (refusal : Option Trouble) → Result (Unit {0}) Trouble → Type 0
IsChecked refusal (Ok _) = refusal ≡ None
IsChecked refusal (Err trouble) = refusal ≡ Some trouble
