-- Calls that change a file, one after the other, each as its contract says.
use Rattle.std.specs.Prelude.{◌≡◌, ℕ, false, List, [], ◌∷◌, Option, Result, Ok, Err, IfOk}
use Rattle.bstr.specs.declared.bstring.BString.{BString}
use Rattle.gitconf_text.specs.declared.memory.NoMemory.{NoMemory}
use Rattle.gitconf_sources.specs.Key.{Key}
use Rattle.gitconf_state.specs.Clean.{is_nameless}
use Rattle.gitconf_state.specs.Edit.{made_header}
use Rattle.gitconf_state.specs.Edits.{Answer, Append, Edit, IsCleanEdit, IsEditor, Push, PushAfterLast, PushLineEnd, PushSection, SetValue, WriteAt, answer}
use Rattle.gitconf_state.specs.State.{HasItems, HasSectionItems, State}
use Rattle.gitconf_includes.specs.declared.includes.Error.{Error as IncludesError}
use Rattle.gitconf_includes.specs.Errors.{says}
use Rattle.gitconf_includes.specs.Expansion as expansions
use Rattle.gitconf_includes.specs.Expansion.{Asks}
use Rattle.gitconf_includes.specs.Laws.{IncludesHeaded}
use Rattle.gitconf_body.specs.Done.{Cause}
use Rattle.gitconf_body.specs.Refusals.{span_refusal}
use Rattle.gitconf_store.specs.declared.rename_section.Error.{Error as RenameError}
use Rattle.gitconf_store.specs.declared.set_raw_value.Error.{Error as SetError}
use Rattle.gitconf_store.specs.Edited.{IsEdited}
use Rattle.gitconf_store.specs.Existing.{IsSetExisting}
use Rattle.gitconf_store.specs.SetSomewhere.{IsSetSomewhere}
use Rattle.gitconf_store.specs.Several.{AreRewritten, AreSetExisting, all_deleted}
use Rattle.gix_config.specs.Renamed.{IsRenamedOfSome}

-- how an edit ends: with its answer, or refused for a cause
abbrev pub Ending : Type 0
Ending = Result Answer Cause

-- One edit: it is done and answered, or refused for the first of its causes that holds, or for want of memory. Each contract says the same with
-- the call's own refusal for the cause.
abbrev pub Ends : Edit → (old : State) → Ending → (new : State) → Type 0
Ends edit old ending new = IsEdited (λ cause. cause) edit ending old new × IfOk ending (λ told. told ≡ answer edit old)

-- the refusal of what only want of memory refuses
abbrev pub no_memory : NoMemory
no_memory = record {}

-- an edit ends like the result of a function: both are done, and what the function returns shows the answer; or its refusal is that of the cause
abbrev pub IsOneEnding : {T E : Type 0} → (shown : T → Answer) → (refusal : Cause → E) → Ending → Result T E → Type 0
IsOneEnding shown refusal (Ok told) (Ok found) = told ≡ shown found
IsOneEnding shown refusal (Err cause) (Err e) = e ≡ refusal cause
IsOneEnding shown refusal (Ok told) (Err e) = ⊥
IsOneEnding shown refusal (Err cause) (Ok found) = ⊥

-- A call on a file, and how it ended: an edit; a value set, or sections renamed, by their names, whatever a filter answers; a value of an
-- existing entry, or of several, set by their key; those of the entries at some places set or deleted by an editor; includes resolved.
pub data Call : Type 0 where
  Edits : Edit → Ending → Call
  SetsSomewhere : (name : List ℕ) → (subsection : Option (List ℕ)) → (key value : List ℕ) → Result (Option BString) SetError → Call
  RenamesSome : (name : List ℕ) → (subsection : Option (List ℕ)) → (new_name : List ℕ) → (new_subsection : Option (List ℕ)) → Result (Unit {0}) RenameError → Call
  SetsExisting : Key → (value : List ℕ) → Result (Unit {0}) SetError → Call
  SetsAllExisting : Key → (values : List (List ℕ)) → Result (Unit {0}) SetError → Call
  SetsValues : (key : List ℕ) → (places : List (ℕ × ℕ)) → (values : List (List ℕ)) → Result (Unit {0}) ℕ → Call
  DeletesAll : (places : List (ℕ × ℕ)) → Call
  Resolves : Asks → Result (Unit {0}) IncludesError → Call

-- what a call leaves: what its contract says
abbrev pub LeavesFile : Call → (old new : State) → Type 0
LeavesFile (Edits edit ending) old new = Ends edit old ending new
LeavesFile (SetsSomewhere name subsection key value result) old new = IsSetSomewhere name subsection key value result old new
LeavesFile (RenamesSome name subsection new_name new_subsection result) old new = IsRenamedOfSome name subsection new_name new_subsection result old new
LeavesFile (SetsExisting key value result) old new = IsSetExisting key value result old new
LeavesFile (SetsAllExisting key values result) old new = AreSetExisting key values result old new
LeavesFile (SetsValues key places values result) old new = AreRewritten span_refusal key places values result old new
LeavesFile (DeletesAll places) old new = new ≡ all_deleted places old
LeavesFile (Resolves asks result) old new = expansions.Resolves says asks old result new

-- calls, each on the file that the one before it left
abbrev pub Runs : List Call → (old new : State) → Type 0
Runs [] old new = new ≡ old
Runs (call ∷ calls) old new = (next : State) × LeavesFile call old next × Runs calls next new

-- What an edit is handed: an editor that was made, or a section or a file of items that a text may have.
abbrev pub IsHanded : Edit → Type 0
IsHanded (Push number editor key value comment) = IsEditor editor
IsHanded (PushAfterLast number editor key value) = IsEditor editor
IsHanded (PushLineEnd number editor) = IsEditor editor
IsHanded (SetValue number editor key value) = IsEditor editor
IsHanded (WriteAt number editor place instead key value) = IsEditor editor
IsHanded (PushSection detached) = HasSectionItems detached.section
IsHanded (Append other) = HasItems other
IsHanded _ = Unit {0}

-- What is asked of a call on a file, so that what is written after it reads back: a clean edit of what it is handed; that a header that it makes
-- has a name or a subsection; and that no file that a section names has an entry before its first section.
abbrev pub IsCleanCall : Call → (old : State) → Type 0
IsCleanCall (Edits edit ending) old = IsHanded edit × IsCleanEdit edit
IsCleanCall (SetsSomewhere name subsection key value result) old = is_nameless (made_header name subsection) ≡ false
IsCleanCall (RenamesSome name subsection new_name new_subsection result) old = is_nameless (made_header new_name new_subsection) ≡ false
IsCleanCall (Resolves asks result) old = IncludesHeaded asks.rules.max_depth asks old
IsCleanCall _ old = Unit {0}

-- the same of calls, each on the file that the one before it left
abbrev pub AreCleanCalls : (calls : List Call) → (old new : State) → Runs calls old new → Type 0
AreCleanCalls [] old new runs = Unit {0}
AreCleanCalls (call ∷ calls) old new runs = IsCleanCall call old × AreCleanCalls calls runs.0 new runs.2
