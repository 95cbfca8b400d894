-- The edits of a file: each is one update of its state, and its result.
-- Source: gix-config.
use Rattle.std.specs.Prelude.{◌≡◌, ℕ, ◌+◌, Bool, true, false, not, List, [], ◌∷◌, ◌++◌, ◌&&◌, ◌||◌, ◌==◌, nat_eq, filter, map, Option, Some, None, length, flat_map, take, drop, if◌then◌else◌}
use Rattle.std.specs.List.{fold, last_or, list_all, list_any, starts_with}
use Rattle.std.specs.Option.{option_eq}
use Rattle.std.specs.Str.{bytes_eq}
use Rattle.gitconf_text.specs.Bytes.{is_blank}
use Rattle.gitconf_text.specs.Names.{is_made_name, is_same_name, is_valid_or_none, is_value_name}
use Rattle.gitconf_text.specs.Text.{begins, are_line_ends}
use Rattle.gitconf_text.specs.Part.{Item, BlanksItem, LineEndsItem, CommentItem, EntryItem}
use Rattle.gitconf_text.specs.Header.{spelled_header}
use Rattle.gitconf_text.specs.Token.{item_tokens}
use Rattle.gitconf_sources.specs.Metadata.{Meta}
use Rattle.gitconf_sources.specs.declared.source.Trust.{Trust}
pub use Rattle.gitconf_state.specs.State.{with_last, with_sections}
use Rattle.gitconf_state.specs.State.{SectionState, State, HasSectionItems, HasItems, entries_of, is_entry, with_items}
use Rattle.gitconf_state.specs.Lookup.{is_named, listing}
use Rattle.gitconf_state.specs.LineEnds.{file_line_end, ends_line}
use Rattle.gitconf_state.specs.Clean.{is_nameless, IsClean, IsCleanSection}
pub use Rattle.gitconf_state.specs.Edit.{value_set_tokens}
use Rattle.gitconf_state.specs.Edit.{made_header, new_section, is_target, is_entry_of, set_raw_value, set_raw_value_tokens, replaced_value, old_value, token_bytes}
use Rattle.gitconf_state.specs.Editors.{Editor, InsteadOf, entry_made, pushed, pushed_after_last, lacks_line_end, line_made, line_end_pushed, value_set, removed, removed_marked, marked_count, popped, popped_entry, written_at, deleted_at}

-- a section that is in no file, and how many bytes its buffer has
pub record Detached : Type 0 where
  pub section : SectionState
  pub used : ℕ

-- the state with a change of the section of a number
abbrev pub change_numbered : (number : ℕ) → (SectionState → SectionState) → State → State
change_numbered number change state = with_sections (map (λ s. if s.number == number then change s else s) state.sections) state

-- the state with a change of the items of the section of a number
abbrev pub change_items : (number : ℕ) → (List Item → List Item) → State → State
change_items number change = change_numbered number (with_items change)

-- a section with another header, made of these names
abbrev pub renamed : (name : List ℕ) → (subsection : Option (List ℕ)) → SectionState → SectionState
renamed name subsection s = record s { header = made_header name subsection }

-- a section with another trust
abbrev pub with_trust : Trust → SectionState → SectionState
with_trust trust s = record s { meta = record s.meta { trust = trust } }

-- the number of the last section of the name and subsection that passes
abbrev pub picked : (name : List ℕ) → (subsection : Option (List ℕ)) → (keeps : Meta → Bool) → State → Option ℕ
picked name subsection keeps state = elim (last_or None (filter (is_target name subsection keeps) state.sections)) [ None ↦ None | Some s ↦ Some s.number ]

-- the state without the section of a number; what is held after it goes with it
abbrev pub without_numbered : (number : ℕ) → State → State
without_numbered number state = with_sections (filter (λ s. not (s.number == number)) state.sections) state

-- the items begin with a line ending, or there are none
abbrev pub begins_with : (line_end : List ℕ) → List Item → Bool
begins_with line_end [] = true
begins_with line_end (BlanksItem run ∷ items) = starts_with nat_eq run line_end
begins_with line_end (LineEndsItem run ∷ items) = starts_with nat_eq run line_end
begins_with line_end (CommentItem tag text ∷ items) = false
begins_with line_end (EntryItem e ∷ items) = false

-- what goes between items and others after them: a line ending, if the items aren't empty and don't end with one and the others don't begin
-- with one
abbrev pub between : (line_end : List ℕ) → (items others : List Item) → List Item
between line_end [] others = []
between line_end (i ∷ items) others =
    if ends_line line_end (i ∷ items) || begins_with line_end others then [] else LineEndsItem line_end ∷ []

-- the others after the items, with a line ending between if one is needed
abbrev pub joined : (line_end : List ℕ) → (items others : List Item) → List Item
joined line_end items others = items ++ (between line_end items others ++ others)

-- the items are held after the last section
abbrev pub held_behind_last : (line_end : List ℕ) → (others : List Item) → List SectionState → List SectionState
held_behind_last line_end others [] = []
held_behind_last line_end others (s ∷ []) = record s { held = joined line_end s.held others } ∷ []
held_behind_last line_end others (s ∷ t ∷ sections) = s ∷ held_behind_last line_end others (t ∷ sections)

-- the same sections, numbered from `first` on
abbrev pub numbered_from : (first : ℕ) → List SectionState → List SectionState
numbered_from first [] = []
numbered_from first (s ∷ sections) = record s { number = first } ∷ numbered_from (first + 1) sections

-- The other's sections come last, under new numbers. Its front is held after our last section, or joins our front if we have no section.
abbrev pub appended : (other : State) → State → State
appended other state = record state {
  front = elim state.sections [ [] ↦ joined (file_line_end state) state.front other.front | s ∷ sections ↦ state.front ];
  next = state.next + length other.sections;
  sections = held_behind_last (file_line_end state) other.front state.sections ++ numbered_from state.next other.sections;
}

-- The edits of a file. An editor of a section is given by the section's number, the editors of values by a place among its items.
pub data Edit : Type 0 where
  SetRawValue : (name : List ℕ) (subsection : Option (List ℕ)) (key : List ℕ) (keeps : Meta → Bool) (value : List ℕ) → Edit
  Push : (number : ℕ) (editor : Editor) (key : List ℕ) (value comment : Option (List ℕ)) → Edit
  PushAfterLast : (number : ℕ) (editor : Editor) (key : List ℕ) (value : Option (List ℕ)) → Edit
  PushLineEnd : (number : ℕ) (editor : Editor) → Edit
  SetValue : (number : ℕ) (editor : Editor) (key value : List ℕ) → Edit
  Remove : (number : ℕ) (key : List ℕ) → Edit
  RemoveMarked : (number : ℕ) (key : List ℕ) (marks : List Bool) → Edit
  Pop : (number : ℕ) → Edit
  WriteAt : (number : ℕ) (editor : Editor) (place : ℕ) (instead : InsteadOf) (key value : List ℕ) → Edit
  DeleteAt : (number place : ℕ) → Edit
  Rename : (number : ℕ) (name : List ℕ) (subsection : Option (List ℕ)) → Edit
  RenameAll : (name : List ℕ) (subsection : Option (List ℕ)) (keeps : Meta → Bool) (new_name : List ℕ) (new_subsection : Option (List ℕ)) → Edit
  NewSection : (name : List ℕ) (subsection : Option (List ℕ)) → Edit
  PushSection : Detached → Edit
  RemoveSection : (name : List ℕ) (subsection : Option (List ℕ)) (keeps : Meta → Bool) → Edit
  RemoveNumbered : (number : ℕ) → Edit
  Append : State → Edit
  SetTrust : (number : ℕ) (trust : Trust) → Edit
  SetMeta : Meta → Edit

-- the state that an edit leaves
abbrev pub apply : Edit → State → State
apply (SetRawValue name subsection key keeps value) state = set_raw_value name subsection key keeps value state
apply (Push number editor key value comment) state = change_items number (pushed editor key value comment) state
apply (PushAfterLast number editor key value) state = change_items number (pushed_after_last editor key value) state
apply (PushLineEnd number editor) state = change_items number (line_end_pushed editor) state
apply (SetValue number editor key value) state = change_items number (value_set editor key value) state
apply (Remove number key) state = change_items number (removed key) state
apply (RemoveMarked number key marks) state = change_items number (removed_marked key marks) state
apply (Pop number) state = change_items number popped state
apply (WriteAt number editor place instead key value) state = change_items number (written_at editor place instead key value) state
apply (DeleteAt number place) state = change_items number (deleted_at place) state
apply (Rename number name subsection) state = change_numbered number (renamed name subsection) state
apply (RenameAll name subsection keeps new_name new_subsection) state =
    with_sections (map (λ s. if is_target name subsection keeps s then renamed new_name new_subsection s else s) state.sections) state
apply (NewSection name subsection) state = with_last (new_section name subsection state) state
apply (PushSection detached) state = with_last detached.section state
apply (RemoveSection name subsection keeps) state = elim (picked name subsection keeps state) [ None ↦ state | Some number ↦ without_numbered number state ]
apply (RemoveNumbered number) state = without_numbered number state
apply (Append other) state = appended other state
apply (SetTrust number trust) state = change_numbered number (with_trust trust) state
apply (SetMeta meta) state = record state { meta = meta }

-- the state that edits leave, done one after the other
abbrev pub apply_all : List Edit → State → State
apply_all edits state = fold (λ s e. apply e s) state edits

-- the section of a number
abbrev pub numbered : (number : ℕ) → State → Option SectionState
numbered number state = last_or None (filter (λ s. s.number == number) state.sections)

-- what is said of the items of the section of a number
abbrev pub said_in_section : {A : Type 0} → (number : ℕ) → (List Item → Option A) → State → Option A
said_in_section number told state = elim (numbered number state) [ None ↦ None | Some s ↦ told s.items ]

-- the items of the section of a number
abbrev pub items_of_numbered : (number : ℕ) → State → List Item
items_of_numbered number state = elim (numbered number state) [ None ↦ [] | Some s ↦ s.items ]

-- what edits return: nothing, a raw text that was there, a key and a meaning, the number of a section, how many entries were removed, a section
-- that was removed
pub data Answer : Type 0 where
  Done : Answer
  Raw : Option (List ℕ) → Answer
  Entry : Option (List ℕ × List ℕ) → Answer
  Number : ℕ → Answer
  Count : ℕ → Answer
  Gone : Option SectionState → Answer

-- what an edit returns, by the state before it
abbrev pub answer : Edit → State → Answer
answer (SetRawValue name subsection key keeps value) state = Raw (replaced_value name subsection key keeps state)
answer (SetValue number editor key value) state = Raw (said_in_section number (old_value key) state)
answer (Remove number key) state = Raw (said_in_section number (old_value key) state)
answer (RemoveMarked number key marks) state = Count (marked_count key marks (items_of_numbered number state))
answer (Pop number) state = Entry (said_in_section number popped_entry state)
answer (NewSection name subsection) state = Number state.next
answer (PushSection detached) state = Number state.next
answer (RemoveSection name subsection keeps) state = Gone (last_or None (filter (is_target name subsection keeps) state.sections))
answer (RemoveNumbered number) state = Gone (numbered number state)
answer _ state = Done

-- How many bytes the tokens have that an edit adds; for a section or a file that is put in, the bytes of its buffer and of a line ending.
abbrev pub new_bytes : Edit → State → ℕ
new_bytes (SetRawValue name subsection key keeps value) state = token_bytes (set_raw_value_tokens name subsection key keeps value state)
new_bytes (Push number editor key value comment) state = token_bytes (flat_map item_tokens (line_made editor key value comment))
new_bytes (PushAfterLast number editor key value) state =
    token_bytes (flat_map item_tokens (line_made editor key value None)) + (if lacks_line_end (items_of_numbered number state) then length editor.line_end else 0)
new_bytes (PushLineEnd number editor) state = length editor.line_end
new_bytes (SetValue number editor key value) state = token_bytes (value_set_tokens editor key value (items_of_numbered number state))
new_bytes (WriteAt number editor place instead key value) state = token_bytes (item_tokens (entry_made editor.spacing key (Some value)))
new_bytes (Rename number name subsection) state = length (spelled_header (made_header name subsection))
new_bytes (RenameAll name subsection keeps new_name new_subsection) state =
    length (flat_map (λ (s : SectionState). spelled_header (made_header new_name new_subsection)) (filter (is_target name subsection keeps) state.sections))
new_bytes (NewSection name subsection) state = length (spelled_header (made_header name subsection)) + length (file_line_end state)
new_bytes (PushSection detached) state = detached.used + length (file_line_end state)
new_bytes (Append other) state = other.used + length (file_line_end state)
new_bytes _ state = 0

-- a section of these names passes, or one may be made
abbrev pub finds_or_makes : (name : List ℕ) → (subsection : Option (List ℕ)) → (keeps : Meta → Bool) → State → Bool
finds_or_makes name subsection keeps state = list_any (is_target name subsection keeps) state.sections || (is_made_name name && is_valid_or_none subsection)

-- An editor's blanks around `=`, and its line ending, are such as a text may have.
pub record IsEditor (editor : Editor) : Type 0 where
  pub before : list_all is_blank editor.spacing.before ≡ true
  pub behind : list_all is_blank editor.spacing.behind ≡ true
  pub line_end : (begins (λ _. true) editor.line_end && are_line_ends editor.line_end) ≡ true

-- what an edit writes may be in a text: the names of values and of sections, and what comes from another buffer
abbrev pub IsEdit : Edit → State → Type 0
IsEdit (SetRawValue name subsection key keeps value) state = (is_value_name key && finds_or_makes name subsection keeps state) ≡ true
IsEdit (Push number editor key value comment) state = IsEditor editor × (is_value_name key ≡ true)
IsEdit (PushAfterLast number editor key value) state = IsEditor editor × (is_value_name key ≡ true)
IsEdit (PushLineEnd number editor) state = IsEditor editor
IsEdit (SetValue number editor key value) state = IsEditor editor × (is_value_name key ≡ true)
IsEdit (WriteAt number editor place instead key value) state = IsEditor editor × (is_value_name key ≡ true)
IsEdit (Rename number name subsection) state = (is_made_name name && is_valid_or_none subsection) ≡ true
IsEdit (RenameAll name subsection keeps new_name new_subsection) state = (is_made_name new_name && is_valid_or_none new_subsection) ≡ true
IsEdit (NewSection name subsection) state = (is_made_name name && is_valid_or_none subsection) ≡ true
IsEdit (PushSection detached) state = HasSectionItems detached.section
IsEdit (Append other) state = HasItems other
IsEdit _ state = Unit {0}

-- the blanks that an editor pushes before a key are spaces and tabs
abbrev pub has_blank_leading : Editor → Bool
has_blank_leading editor = elim editor.spacing.leading [ None ↦ true | Some run ↦ list_all is_blank run ]

-- An edit that leaves a clean state clean: a header that is made has a name or a subsection, and what is put in is clean; an appended file has
-- no entry in its front.
abbrev pub IsCleanEdit : Edit → Type 0
IsCleanEdit (SetRawValue name subsection key keeps value) = is_nameless (made_header name subsection) ≡ false
IsCleanEdit (Push number editor key value comment) = has_blank_leading editor ≡ true
IsCleanEdit (PushAfterLast number editor key value) = has_blank_leading editor ≡ true
IsCleanEdit (SetValue number editor key value) = has_blank_leading editor ≡ true
IsCleanEdit (Rename number name subsection) = is_nameless (made_header name subsection) ≡ false
IsCleanEdit (RenameAll name subsection keeps new_name new_subsection) = is_nameless (made_header new_name new_subsection) ≡ false
IsCleanEdit (NewSection name subsection) = is_nameless (made_header name subsection) ≡ false
IsCleanEdit (PushSection detached) = IsCleanSection detached.section
IsCleanEdit (Append other) = IsClean other × (entries_of other.front ≡ [])
IsCleanEdit _ = Unit {0}

-- each edit, on the state that those before it leave, writes what may be in a text
abbrev pub AreEdits : List Edit → State → Type 0
AreEdits [] state = Unit {0}
AreEdits (edit ∷ edits) state = IsEdit edit state × AreEdits edits (apply edit state)

-- each edit leaves a clean state clean
abbrev pub AreCleanEdits : List Edit → Type 0
AreCleanEdits [] = Unit {0}
AreCleanEdits (edit ∷ edits) = IsCleanEdit edit × AreCleanEdits edits

-- the number of the section that an editor's edit is about
abbrev pub edited_number : Edit → Option ℕ
edited_number (Push number editor key value comment) = Some number
edited_number (PushAfterLast number editor key value) = Some number
edited_number (PushLineEnd number editor) = Some number
edited_number (SetValue number editor key value) = Some number
edited_number (Remove number key) = Some number
edited_number (RemoveMarked number key marks) = Some number
edited_number (Pop number) = Some number
edited_number (WriteAt number editor place instead key value) = Some number
edited_number (DeleteAt number place) = Some number
edited_number (Rename number name subsection) = Some number
edited_number (SetTrust number trust) = Some number
edited_number _ = None

-- Only the section of a number changed, and each section has the number that it had.
pub record IsOneChanged (number : ℕ) (old new : State) : Type 0 where
  pub front : new.front ≡ old.front
  pub meta_stays : new.meta ≡ old.meta
  pub next_stays : new.next ≡ old.next
  pub used_stays : new.used ≡ old.used
  pub numbers : map (λ s. s.number) new.sections ≡ map (λ s. s.number) old.sections
  pub others : filter (λ s. not (s.number == number)) new.sections ≡ filter (λ s. not (s.number == number)) old.sections

-- a section of the first name and subsection has the other name and subsection
abbrev pub is_same_section : (name : List ℕ) → (subsection : Option (List ℕ)) → (other : List ℕ) → (other_subsection : Option (List ℕ)) → Bool
is_same_section name subsection other other_subsection = is_same_name other name && option_eq bytes_eq subsection other_subsection

-- the section of a number has the name and subsection, and its items pass
abbrev pub is_there : (number : ℕ) → (name : List ℕ) → (subsection : Option (List ℕ)) → (test : List Item → Bool) → State → Bool
is_there number name subsection test state = list_any (λ s. s.number == number && (is_named name subsection (listing s) && test s.items)) state.sections

-- the last entry of the items is one of the key
abbrev pub is_last_of : (key : List ℕ) → List Item → Bool
is_last_of key items = elim (last_or None (filter is_entry items)) [ None ↦ false | Some i ↦ is_entry_of key i ]

-- the item at a place is an entry of the key
abbrev pub is_one_at : (place : ℕ) → (key : List ℕ) → List Item → Bool
is_one_at place key items = list_any (is_entry_of key) (take 1 (drop place items))

-- an edit is about a key: it names the key in a section of this name and subsection, or it names such a section as a whole
abbrev pub is_about : Edit → (name : List ℕ) → (subsection : Option (List ℕ)) → (key : List ℕ) → State → Bool
is_about (SetRawValue edited edited_subsection edited_key keeps value) name subsection key state =
    is_same_name edited_key key && is_same_section edited edited_subsection name subsection
is_about (Push number editor edited_key value comment) name subsection key state = is_there number name subsection (λ items. is_same_name edited_key key) state
is_about (PushAfterLast number editor edited_key value) name subsection key state = is_there number name subsection (λ items. is_same_name edited_key key) state
is_about (PushLineEnd number editor) name subsection key state = false
is_about (SetValue number editor edited_key value) name subsection key state = is_there number name subsection (λ items. is_same_name edited_key key) state
is_about (Remove number edited_key) name subsection key state = is_there number name subsection (λ items. is_same_name edited_key key) state
is_about (RemoveMarked number edited_key marks) name subsection key state = is_there number name subsection (λ items. is_same_name edited_key key) state
is_about (Pop number) name subsection key state = is_there number name subsection (is_last_of key) state
is_about (WriteAt number editor place instead edited_key value) name subsection key state =
    is_there number name subsection (λ items. is_same_name edited_key key || is_one_at place key items) state
is_about (DeleteAt number place) name subsection key state = is_there number name subsection (is_one_at place key) state
is_about (Rename number new_name new_subsection) name subsection key state =
    is_same_section new_name new_subsection name subsection || is_there number name subsection (λ items. true) state
is_about (RenameAll edited edited_subsection keeps new_name new_subsection) name subsection key state =
    is_same_section new_name new_subsection name subsection || is_same_section edited edited_subsection name subsection
is_about (NewSection new_name new_subsection) name subsection key state = false
is_about (PushSection detached) name subsection key state = is_named name subsection (listing detached.section)
is_about (RemoveSection edited edited_subsection keeps) name subsection key state =
    elim (picked edited edited_subsection keeps state) [ None ↦ false | Some number ↦ is_there number name subsection (λ items. true) state ]
is_about (RemoveNumbered number) name subsection key state = is_there number name subsection (λ items. true) state
is_about (Append other) name subsection key state = list_any (λ s. is_named name subsection (listing s)) other.sections
is_about (SetTrust number trust) name subsection key state = is_there number name subsection (λ items. true) state
is_about (SetMeta meta) name subsection key state = false
