-- What an edit of a file leaves, how many bytes it adds to the buffer, and why it is refused. A separator, the mark of a comment, and the brackets
-- and quotes of a header are in no buffer.
use Rattle.std.specs.Prelude.{◌==◌, ◌+◌, ◌||◌, ◌&&◌, ℕ, Bool, not, true, ltb, List, [], ◌∷◌, ◌++◌, length, Option, Some, None, Result, if◌then◌else◌}
use Rattle.std.specs.List.{list_any}
use Rattle.gitconf_text.specs.Names.{is_value_name}
use Rattle.gitconf_text.specs.Sections.{no_number}
use Rattle.gitconf_text.specs.Part.{Item}
use Rattle.gitconf_sources.specs.Metadata.{Meta}
use Rattle.gitconf_state.specs.Edit.{header_bytes, is_target, set_raw_value_bytes, with_used}
use Rattle.gitconf_state.specs.Edits.{Edit, Append, NewSection, Push, PushAfterLast, PushLineEnd, PushSection, Rename, RenameAll, SetRawValue, SetValue, WriteAt, apply, numbered}
use Rattle.gitconf_state.specs.LineEnds.{file_line_end}
use Rattle.gitconf_state.specs.Lookup.{listed, miss_of}
use Rattle.gitconf_state.specs.State.{State}
use Rattle.gitconf_body.specs.Done.{Cause, InvalidKey, IsDone, Missing, TooLarge, header_causes, heading_causes, is_full, key_causes, room_causes}
use Rattle.gitconf_body.specs.Puts.{after_last_bytes, assigned_bytes, line_bytes, value_set_bytes}
use Rattle.gitconf_store.specs.Appends.{appended_bytes}

-- a section has the number
abbrev pub has_number : (number : ℕ) → State → Bool
has_number number state = list_any (λ s. s.number == number) state.sections

-- no section of the names passes
abbrev pub has_no_target : (name : List ℕ) → (subsection : Option (List ℕ)) → (keeps : Meta → Bool) → State → Bool
has_no_target name subsection keeps state = not (list_any (is_target name subsection keeps) state.sections)

-- how many bytes are added for the items of the section of a number; none if no section has it
abbrev pub bytes_in : (number : ℕ) → (List Item → ℕ) → State → ℕ
bytes_in number count state = elim (numbered number state) [ None ↦ 0 | Some s ↦ count s.items ]

-- how many bytes an edit adds to the buffer, with all blanks that it writes
abbrev pub put_bytes : Edit → State → ℕ
put_bytes (SetRawValue name subsection key keeps value) state = set_raw_value_bytes name subsection key keeps value state
put_bytes (Push number editor key value comment) state = bytes_in number (λ items. line_bytes editor key value comment) state
put_bytes (PushAfterLast number editor key value) state = bytes_in number (after_last_bytes editor key value) state
put_bytes (PushLineEnd number editor) state = bytes_in number (λ items. length editor.line_end) state
put_bytes (SetValue number editor key value) state = bytes_in number (value_set_bytes editor key value) state
put_bytes (WriteAt number editor place instead key value) state = bytes_in number (λ items. length key + assigned_bytes editor.spacing (Some value)) state
put_bytes (Rename number name subsection) state = bytes_in number (λ items. header_bytes name subsection) state
put_bytes (RenameAll name subsection keeps new_name new_subsection) state = if has_no_target name subsection keeps state then 0 else header_bytes new_name new_subsection
put_bytes (NewSection name subsection) state = length (file_line_end state) + header_bytes name subsection
put_bytes (PushSection detached) state = detached.used
put_bytes (Append other) state = appended_bytes other state
put_bytes _ state = 0

-- the state after an edit was done, with the bytes that it added
abbrev pub done : Edit → State → State
done edit state = with_used (state.used + put_bytes edit state) (apply edit state)

-- the causes for a section that is made, with so many bytes
abbrev pub made_causes : (name : List ℕ) → (subsection : Option (List ℕ)) → (count : ℕ) → State → List (Bool × Cause)
made_causes name subsection count state = header_causes true name subsection ++ ((is_full state.used count || (state.next == no_number), TooLarge) ∷ [])

-- Why an edit is refused: what keeps it from being done, in the order in which it is asked, each with whether it does.
abbrev pub causes : Edit → State → List (Bool × Cause)
causes (SetRawValue name subsection key keeps value) state =
    (not (is_value_name key), InvalidKey)
    ∷ (header_causes (has_no_target name subsection keeps state) name subsection
    ++ ((
      is_full state.used (put_bytes (SetRawValue name subsection key keeps value) state)
          || (has_no_target name subsection keeps state && (state.next == no_number)),
      TooLarge,
    ) ∷ []))
causes (Push number editor key value comment) state = key_causes key state.used (put_bytes (Push number editor key value comment) state)
causes (PushAfterLast number editor key value) state = key_causes key state.used (put_bytes (PushAfterLast number editor key value) state)
causes (PushLineEnd number editor) state = room_causes state.used (put_bytes (PushLineEnd number editor) state)
causes (SetValue number editor key value) state = key_causes key state.used (put_bytes (SetValue number editor key value) state)
causes (WriteAt number editor place instead key value) state = key_causes key state.used (put_bytes (WriteAt number editor place instead key value) state)
causes (Rename number name subsection) state = header_causes true name subsection ++ room_causes state.used (put_bytes (Rename number name subsection) state)
causes (RenameAll name subsection keeps new_name new_subsection) state =
    (has_no_target name subsection keeps state, Missing (miss_of name subsection (listed state))) ∷ heading_causes new_name new_subsection state.used
causes (NewSection name subsection) state = made_causes name subsection (put_bytes (NewSection name subsection) state) state
causes (PushSection detached) state = (is_full state.used detached.used || (state.next == no_number), TooLarge) ∷ []
causes (Append other) state = (is_full state.used (appended_bytes other state) || ltb no_number (state.next + length other.sections), TooLarge) ∷ []
causes _ state = []

-- How an edit of a file is done, with its bytes; or why it is refused, and that the file is as it was.
abbrev pub IsEdited : {T E : Type 0} → (refusal : Cause → E) → Edit → Result T E → (old new : State) → Type 0
IsEdited refusal edit result old new = IsDone (causes edit old) refusal result (done edit old) old new

-- the same of an edit that writes an entry, and adds so many bytes
abbrev pub IsWritten : {T E : Type 0} → (refusal : Cause → E) → (key : List ℕ) → (count : ℕ) → Edit → Result T E → (old new : State) → Type 0
IsWritten refusal key count edit result old new =
    IsDone (key_causes key old.used count) refusal result (with_used (old.used + count) (apply edit old)) old new
