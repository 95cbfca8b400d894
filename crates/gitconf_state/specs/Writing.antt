-- How a writer goes through items: what it has to remember of those before. Printing has the definition of what is printed, which agrees.
use Rattle.std.specs.Prelude.{ℕ, Bool, true, false, List, [], ◌∷◌, ◌&&◌, Option, Some, None}
use Rattle.gitconf_text.specs.Part.{Assigned, Item, BlanksItem, LineEndsItem, CommentItem, EntryItem}
use Rattle.gitconf_state.specs.Printing.{closed_item}

-- what comes before in the same list, since the last line ending: nothing; an entry without `=`, with no byte after its name
-- or with blanks there; an entry with a value; a comment
pub data Open : Type 0 where
  Closed : Open
  OpenKey : Open
  OpenKeyAndBlanks : Open
  OpenValue : Open
  OpenComment : Open

-- what is open after blanks
abbrev pub after_blanks : (run : List ℕ) → Open → Open
after_blanks [] before = before
after_blanks (b ∷ run) Closed = Closed
after_blanks (b ∷ run) OpenKey = OpenKeyAndBlanks
after_blanks (b ∷ run) OpenKeyAndBlanks = OpenKeyAndBlanks
after_blanks (b ∷ run) OpenValue = OpenValue
after_blanks (b ∷ run) OpenComment = OpenComment

-- what is open after an entry; the line endings of a value of several pieces close a comment before it, but not the value
abbrev pub after_entry : Open → (blanks : List ℕ) → Option Assigned → Open
after_entry OpenComment blanks None = OpenComment
after_entry OpenComment blanks (Some a) = elim a.value.pieces [ [] ↦ OpenComment | p ∷ pieces ↦ OpenValue ]
after_entry before blanks None = after_blanks blanks OpenKey
after_entry before blanks (Some a) = OpenValue

-- what is open after an item
abbrev pub after : Open → Item → Open
after before (BlanksItem run) = after_blanks run before
after before (LineEndsItem run) = Closed
after before (CommentItem tag text) = OpenComment
after before (EntryItem e) = after_entry before e.blanks e.assigned

-- A line ending is inserted before a comment after a comment, and in a body before a name after an entry or a comment.
abbrev pub breaks_behind : (in_body : Bool) → Open → Item → Bool
breaks_behind in_body OpenComment (CommentItem tag text) = true
breaks_behind in_body OpenComment (EntryItem e) = in_body
breaks_behind in_body Closed (EntryItem e) = false
breaks_behind in_body before (EntryItem e) = in_body
breaks_behind in_body before i = false

-- the items of a list as they are written
abbrev pub written_items : (in_body : Bool) → (line_end : List ℕ) → Open → List Item → List Item
written_items in_body line_end before [] = []
written_items in_body line_end before (i ∷ items) = elim (breaks_behind in_body before i) [
  | true ↦ LineEndsItem line_end ∷ closed_item line_end i ∷ written_items in_body line_end (after Closed i) items
  | false ↦ closed_item line_end i ∷ written_items in_body line_end (after before i) items
]

-- A name may come at the start, after a line ending, and after blanks after an entry without `=`.
abbrev pub may_stand_behind : Open → Item → Bool
may_stand_behind Closed (EntryItem e) = true
may_stand_behind OpenKeyAndBlanks (EntryItem e) = true
may_stand_behind before (EntryItem e) = false
may_stand_behind before i = true

-- each name is where it may be
abbrev pub stand_apart_behind : Open → List Item → Bool
stand_apart_behind before [] = true
stand_apart_behind before (i ∷ items) = may_stand_behind before i && stand_apart_behind (after before i) items
