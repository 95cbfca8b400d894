-- Calls of the library, each as a step of the main theorem.
use Rattle.std.specs.Prelude.{◌≡◌, ℕ, List, MatchResult, Option, Some, None, Result}
use Rattle.bstr.specs.declared.bstring.BString.{BString}
use Rattle.bstr.specs.Owned.{bstring_bytes}
use Rattle.std.specs.Option.{option_map}
use Rattle.gitconf_text.specs.declared.memory.NoMemory.{NoMemory}
use Rattle.gitconf_text.specs.declared.parse.section.header.Error.{Error as HeaderError}
use Rattle.gitconf_body.specs.Done.{Cause, OutOfMemory}
use Rattle.gitconf_body.specs.Refusals.{header_refusal}
use Rattle.gitconf_state.specs.Edits.{Answer, Edit, NewSection, Number, Raw, RemoveNumbered, answer}
use Rattle.gitconf_state.specs.State.{SectionState, State}
use Rattle.gix_config_laws.specs.Headline.{Edits, Ending, IsOneEnding, LeavesFile, no_memory}

-- an edit is a step from one state of a file to the next, and ends like the result of a call
abbrev pub IsStep : {T E : Type 0} → Edit → (shown : T → Answer) → (refusal : Cause → E) → Result T E → (old new : State) → Type 0
IsStep edit shown refusal result old new = (ending : Ending) × LeavesFile (Edits edit ending) old new × IsOneEnding shown refusal ending result

-- a value that an edit puts in the place of another one, or takes away, as the call hands it out
abbrev pub raw : Option BString → Answer
raw old = Raw (option_map bstring_bytes old)

-- If a section was found, taking it out is a step; otherwise the file stays.
abbrev pub IsRemovingStep : {T : Type 0} → (found : Option SectionState) → Result T NoMemory → (old new : State) → Type 0
IsRemovingStep None result old new = new ≡ old
IsRemovingStep (Some s) result old new = let edit = RemoveNumbered s.number in IsStep edit (λ _. answer edit old) (λ _. no_memory) result old new

-- If a section was found, the file stays, and its number is returned; otherwise making one is a step.
abbrev pub IsFoundOrStep : (name : List ℕ) → (subsection : Option (List ℕ)) → (found : Option SectionState) → Result ℕ HeaderError → (old new : State) → Type 0
IsFoundOrStep name subsection None result old new = IsStep (NewSection name subsection) Number header_refusal result old new
IsFoundOrStep name subsection (Some s) result old new = (new ≡ old) × MatchResult result (λ number. number ≡ s.number) (λ e. e ≡ header_refusal OutOfMemory)
