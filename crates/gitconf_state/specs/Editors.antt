-- What editors of a section change among its items: lines that are pushed, values that are set, entries that are removed.
-- Source: gix-config; that separator blanks keep their order, and that an entry without `=` gets one, are this project's own rules.
use Rattle.std.specs.Prelude.{ℕ, ◌+◌, Bool, true, false, not, List, [], ◌∷◌, ◌++◌, ◌==◌, filter, length, map, take, drop, Option, Some, None, if◌then◌else◌}
use Rattle.std.specs.List.{list_any}
use Rattle.gitconf_text.specs.Bytes.{is_whitespace}
use Rattle.gitconf_text.specs.Text.{begins}
use Rattle.gitconf_text.specs.Value.{Piece, plain}
use Rattle.gitconf_text.specs.Part.{Assigned, Item, BlanksItem, LineEndsItem, CommentItem, EntryItem}
use Rattle.gitconf_state.specs.State.{SectionState, State, is_entry, cut_last}
use Rattle.gitconf_state.specs.LineEnds.{file_line_end, section_line_end}
use Rattle.gitconf_state.specs.Entries.{Spacing, spacing_of, leading_item, assigned_value, with_value, is_entry_of, update_last, item_raw}

-- An editor: the blanks that it writes, as they were when it was made, its line ending, and whether one follows what is pushed.
pub record Editor : Type 0 where
  pub spacing : Spacing
  pub line_end : List ℕ
  pub ends : Bool

-- the editor of a body, with the blanks that it uses and a line ending
abbrev pub editor_of_body : (line_end : List ℕ) → List Item → Editor
editor_of_body line_end items = record { spacing = spacing_of items; line_end = line_end; ends = true }

-- the editor of a section in a file, which uses the file's line ending
abbrev pub editor_of : State → SectionState → Editor
editor_of state s = editor_of_body (file_line_end state) s.items

-- the editor of a section that is in no file, which uses the section's own line ending
abbrev pub editor_alone : SectionState → Editor
editor_alone s = editor_of_body (section_line_end s) s.items

-- an entry that is made: with the editor's blanks around `=`, or the name alone
abbrev pub entry_made : Spacing → (key : List ℕ) → (value : Option (List ℕ)) → Item
entry_made spacing key None = EntryItem (record { name = key; blanks = []; assigned = None })
entry_made spacing key (Some value) = EntryItem (record { name = key; blanks = spacing.before; assigned = assigned_value spacing.behind value })

-- the text of a comment that is made: after a space, unless it begins with white space, with each LF turned to a space
abbrev pub comment_text : List ℕ → List ℕ
comment_text text = (if begins (λ b. not (is_whitespace b)) text then 32 ∷ [] else []) ++ map (λ b. if b == 10 then 32 else b) text

-- a comment that is made after an entry, if there is one
abbrev pub comment_made : Option (List ℕ) → List Item
comment_made None = []
comment_made (Some text) = BlanksItem (32 ∷ []) ∷ CommentItem 35 (comment_text text) ∷ []

-- the line ending after what is pushed, unless it is switched off
abbrev pub end_made : Editor → List Item
end_made editor = if editor.ends then LineEndsItem editor.line_end ∷ [] else []

-- a line that is pushed: a key with a value or without one, and with a comment or without one
abbrev pub line_made : Editor → (key : List ℕ) → (value comment : Option (List ℕ)) → List Item
line_made editor key value comment =
    leading_item editor.spacing.leading ++ entry_made editor.spacing key value ∷ (comment_made comment ++ end_made editor)

-- the items with such a line after them
abbrev pub pushed : Editor → (key : List ℕ) → (value comment : Option (List ℕ)) → List Item → List Item
pushed editor key value comment items = items ++ line_made editor key value comment

-- the items with a line ending after them
abbrev pub line_end_pushed : Editor → List Item → List Item
line_end_pushed editor items = items ++ LineEndsItem editor.line_end ∷ []

-- the key's last entry has the value, or a line with it is pushed
abbrev pub value_set : Editor → (key value : List ℕ) → List Item → List Item
value_set editor key value items = elim (list_any (is_entry_of key) items) [
  | true ↦ update_last (is_entry_of key) (with_value editor.spacing value) items
  | false ↦ pushed editor key (Some value) None items
]

-- the item, unless it is blanks
abbrev pub unless_blanks : Item → List Item
unless_blanks (BlanksItem run) = []
unless_blanks i = i ∷ []

-- the items without the blanks at their end
abbrev pub without_last_blanks : List Item → List Item
without_last_blanks [] = []
without_last_blanks (i ∷ []) = unless_blanks i
without_last_blanks (i ∷ j ∷ items) = i ∷ without_last_blanks (j ∷ items)

-- the items without the line endings at their front
abbrev pub without_first_line_ends : List Item → List Item
without_first_line_ends (LineEndsItem run ∷ items) = items
without_first_line_ends items = items

-- the key's last entry is removed, with the blanks directly before it and the line endings directly after it
abbrev pub removed : (key : List ℕ) → List Item → List Item
removed key items = elim (cut_last (is_entry_of key) items) [
  | None ↦ items
  | Some c ↦ without_last_blanks c.0 ++ without_first_line_ends c.1.1
]

-- each item with whether it is marked: of the entries of the key the first has the first mark, and so on; those behind the last mark have none
abbrev pub marked : (key : List ℕ) → (marks : List Bool) → List Item → List (Bool × Item)
marked key marks [] = []
marked key marks (i ∷ items) = elim (is_entry_of key i) [
  | false ↦ (false, i) ∷ marked key marks items
  | true ↦ elim marks [ [] ↦ (false, i) ∷ marked key [] items | m ∷ ms ↦ (m, i) ∷ marked key ms items ]
]

-- a marked item comes first
abbrev pub begins_marked : List (Bool × Item) → Bool
begins_marked [] = false
begins_marked (p ∷ ps) = p.0

-- the items without those that are marked, without blanks directly before one and without line endings directly after one
abbrev pub without_marked : List (Bool × Item) → List Item
without_marked [] = []
without_marked (p ∷ ps) = elim p.0 [
  | true ↦ without_first_line_ends (without_marked ps)
  | false ↦ (if begins_marked ps then unless_blanks p.1 else p.1 ∷ []) ++ without_marked ps
]

-- the key's marked entries are removed, each as `removed` does
abbrev pub removed_marked : (key : List ℕ) → (marks : List Bool) → List Item → List Item
removed_marked key marks items = without_marked (marked key marks items)

-- how many entries `removed_marked` removes
abbrev pub marked_count : (key : List ℕ) → (marks : List Bool) → List Item → ℕ
marked_count key marks items = length (filter (λ p. p.0) (marked key marks items))

-- the last entry is removed, with the blanks directly before it and everything after it; without an entry, all items are
abbrev pub popped : List Item → List Item
popped items = elim (cut_last is_entry items) [ None ↦ [] | Some c ↦ without_last_blanks c.0 ]

-- the key and the meaning of an entry
abbrev pub key_and_meaning : Item → Option (List ℕ × List ℕ)
key_and_meaning (EntryItem e) = Some (e.name, plain (item_raw (EntryItem e)))
key_and_meaning _ = None

-- the key and the meaning of the entry that `popped` removes; no value counts as an empty one
abbrev pub popped_entry : List Item → Option (List ℕ × List ℕ)
popped_entry items = elim (cut_last is_entry items) [
  | None ↦ None
  | Some c ↦ key_and_meaning c.1.0
]

-- these bytes, or the others if there are none
abbrev pub unless_empty : List ℕ → (others : List ℕ) → List ℕ
unless_empty [] others = others
unless_empty (b ∷ bytes) others = b ∷ bytes

-- the last line ending among pieces; a filter of events may have dropped some of them or all
abbrev pub last_line_end : List Piece → List ℕ
last_line_end [] = []
last_line_end (p ∷ pieces) = unless_empty (last_line_end pieces) p.line_end

-- a comment follows, apart from blanks
abbrev pub is_before_comment : List Item → Bool
is_before_comment (BlanksItem run ∷ items) = is_before_comment items
is_before_comment (CommentItem tag text ∷ items) = true
is_before_comment _ = false

-- a line ending as an item, if it has bytes
abbrev pub line_end_item : List ℕ → List Item
line_end_item [] = []
line_end_item (b ∷ run) = LineEndsItem (b ∷ run) ∷ []

-- the last line ending of a value whose last piece is empty, if a comment follows: it keeps the comment off the new value
abbrev pub kept_line_end : Option Assigned → (behind : List Item) → List Item
kept_line_end None behind = []
kept_line_end (Some a) behind = elim a.value.last [ [] ↦ if is_before_comment behind then line_end_item (last_line_end a.value.pieces) else [] | b ∷ last ↦ [] ]

-- What an entry is written in place of: nothing, where one was removed; the entry that is there; or that entry without the line ending
-- that keeps a comment off its value.
pub data InsteadOf : Type 0 where
  OfNothing : InsteadOf
  OfEntry : InsteadOf
  OfEntryButLineEnd : InsteadOf

-- the items from the place on, as they come after what is written there
abbrev pub behind_written : InsteadOf → List Item → List Item
behind_written OfNothing items = items
behind_written OfEntry (EntryItem e ∷ behind) = behind
behind_written OfEntryButLineEnd (EntryItem e ∷ behind) = kept_line_end e.assigned behind ++ behind
behind_written instead items = items

-- an entry is written at a place, with this name and the editor's blanks
abbrev pub written_at : Editor → (place : ℕ) → InsteadOf → (key value : List ℕ) → List Item → List Item
written_at editor place instead key value items = take place items ++ entry_made editor.spacing key (Some value) ∷ behind_written instead (drop place items)

-- only the entry at a place is removed
abbrev pub deleted_at : (place : ℕ) → List Item → List Item
deleted_at place items = take place items ++ drop (place + 1) items

-- an item of line endings
abbrev pub is_line_ends : Item → Bool
is_line_ends (LineEndsItem run) = true
is_line_ends i = false

-- the items behind the last entry; all of them if there is none
abbrev pub behind_last_entry : List Item → List Item
behind_last_entry items = elim (cut_last is_entry items) [ None ↦ items | Some c ↦ c.1.1 ]

-- the line of the last entry, or of the header, is the last one and has no line ending
abbrev pub lacks_line_end : List Item → Bool
lacks_line_end items = not (list_any is_line_ends (behind_last_entry items))

-- how many bytes the first line ending of a run has
abbrev pub end_bytes : List ℕ → ℕ
end_bytes run = if begins (λ b. b == 13) run then 2 else 1

-- the items with others put in below their first line; a line that has no line ending gets one
abbrev pub put_below : (line_end : List ℕ) → (line items : List Item) → List Item
put_below line_end line [] = LineEndsItem line_end ∷ line
put_below line_end line (LineEndsItem run ∷ items) = LineEndsItem (take (end_bytes run) run) ∷ (line ++ (line_end_item (drop (end_bytes run) run) ++ items))
put_below line_end line (i ∷ items) = i ∷ put_below line_end line items

-- the items with others put in below the line of the last entry, or below the header's line if there is no entry
abbrev pub put_after_last : (line_end : List ℕ) → (line items : List Item) → List Item
put_after_last line_end line items = elim (cut_last is_entry items) [
  | None ↦ put_below line_end line items
  | Some c ↦ c.0 ++ c.1.0 ∷ put_below line_end line c.1.1
]

-- a line that is pushed there
abbrev pub pushed_after_last : Editor → (key : List ℕ) → (value : Option (List ℕ)) → List Item → List Item
pushed_after_last editor key value items = put_after_last editor.line_end (line_made editor key value None) items
