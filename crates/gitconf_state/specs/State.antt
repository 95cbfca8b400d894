-- The state of a file: what comes before its first section, and its sections, as spelled; and the document that it has.
use Rattle.std.specs.Prelude.{◌≡◌, ◌<◌, ◌≤◌, ◌+◌, ◌++◌, ℕ, Bool, true, false, not, List, [], ◌∷◌, ◌&&◌, ◌==◌, map, filter, flat_map, Option, Some, None}
use Rattle.std.specs.List.{list_all, AllByRecursion}
use Rattle.gitconf_text.specs.Bytes.{is_blank, is_name_byte, is_header_byte}
use Rattle.gitconf_text.specs.Text.{begins, ends, are_line_ends, is_line_end}
use Rattle.gitconf_text.specs.Unit.{is_white, is_mark}
use Rattle.gitconf_text.specs.Value.{Piece, Value, spelled_value, value_units, are_paired}
use Rattle.gitconf_text.specs.Header.{Header, PlainHeader, DottedHeader, QuotedHeader, is_spelling, name_of, subsection_of}
use Rattle.gitconf_text.specs.Names.{is_value_name}
use Rattle.gitconf_text.specs.Part.{Assigned, Item, BlanksItem, LineEndsItem, CommentItem, EntryItem}
use Rattle.gitconf_text.specs.Document.{DocumentEntry, DocumentSection, Document, document_entry}
use Rattle.gitconf_sources.specs.Metadata.{Meta}
use Rattle.gitconf_text.specs.Sections.{no_number}

-- a section: its number, its header as spelled, where it comes from, its body, and the items held after it, which were
-- the front of a file that was appended
pub record SectionState : Type 0 where
  pub number : ℕ
  pub header : Header
  pub meta : Meta
  pub items : List Item
  pub held : List Item

-- a file: its front, where it comes from, the number that the next section gets, the bytes of its buffer, and its sections in order
pub record State : Type 0 where
  pub front : List Item
  pub meta : Meta
  pub next : ℕ
  pub used : ℕ
  pub sections : List SectionState

-- a section with a change of its items
abbrev pub with_items : (List Item → List Item) → SectionState → SectionState
with_items change s = record s { items = change s.items }

-- the state with these sections
abbrev pub with_sections : List SectionState → State → State
with_sections sections state = record state { sections = sections }

-- the state with one more section after all others, under the next number
abbrev pub with_last : SectionState → State → State
with_last s state = record state { next = state.next + 1; sections = state.sections ++ record s { number = state.next } ∷ [] }

-- the item is an entry
abbrev pub is_entry : Item → Bool
is_entry (EntryItem e) = true
is_entry _ = false

-- the item is a comment
abbrev pub is_comment : Item → Bool
is_comment (CommentItem tag text) = true
is_comment _ = false

-- a list cut at its last element that passes: what comes before it, that element, and what comes after it
abbrev pub Cut : Type 0
Cut = Option (List Item × (Item × List Item))

-- the items cut at the last one that passes; none if none passes
abbrev pub cut_last : (Item → Bool) → List Item → Cut
cut_last test [] = None
cut_last test (i ∷ items) = elim (cut_last test items) [
  | Some c ↦ Some (i ∷ c.0, c.1)
  | None ↦ elim (test i) [ true ↦ Some ([], (i, items)) | false ↦ None ]
]

-- the entry of an item, if it is one
abbrev pub item_entries : Item → List DocumentEntry
item_entries (EntryItem e) = document_entry e ∷ []
item_entries _ = []

-- the entries of items, in order
abbrev pub entries_of : List Item → List DocumentEntry
entries_of items = flat_map item_entries items

-- the section of the document: its name, its subsection, and the entries of its items
abbrev pub section_document : SectionState → DocumentSection
section_document s = record { name = name_of s.header; subsection = subsection_of s.header; entries = entries_of s.items }

-- the document of the front and of the sections that a filter keeps
abbrev pub document_of_kept : (SectionState → Bool) → State → Document
document_of_kept keeps state = record { front = entries_of state.front; sections = map section_document (filter keeps state.sections) }

-- the document that a state has: the entries of the front, and of each section
abbrev pub document_of : State → Document
document_of state = record { front = entries_of state.front; sections = map section_document state.sections }

-- A piece that a text may have: after its backslash is one line ending, or, if a filter dropped it, none.
abbrev pub is_piece : Piece → Bool
is_piece p = elim p.line_end [ [] ↦ true | b ∷ bs ↦ is_line_end p.line_end ]

-- A value that a text may have, wherever it ends.
abbrev pub is_value : Value → Bool
is_value v = not (begins is_blank (spelled_value v)) && are_paired false (value_units v) && list_all is_piece v.pieces && not (ends is_white v.last)

-- what is assigned is such as a text may have: blanks, and a value
abbrev pub is_assigned : Option Assigned → Bool
is_assigned None = true
is_assigned (Some a) = list_all is_blank a.blanks && is_value a.value

-- an item is one that a text may have, wherever it is
abbrev pub is_item : Item → Bool
is_item (BlanksItem run) = true
is_item (LineEndsItem run) = begins (λ _. true) run && are_line_ends run
is_item (CommentItem tag text) = is_mark tag && list_all (λ b. not (b == 10)) text
is_item (EntryItem e) = is_value_name e.name && list_all is_blank e.blanks && is_assigned e.assigned

-- the header of a section: one that a text may have, or `[]`
abbrev pub is_header : Header → Bool
is_header (PlainHeader name) = list_all is_name_byte name
is_header (DottedHeader name subsection) = list_all is_name_byte name && list_all is_header_byte subsection
is_header (QuotedHeader name blanks spelling) =
    list_all is_header_byte name && begins (λ _. true) blanks && list_all is_blank blanks && is_spelling spelling

-- the header and the items of a section are such as a text may have
pub record HasSectionItems (s : SectionState) : Type 0 where
  pub header : is_header s.header ≡ true
  pub items : list_all is_item s.items ≡ true
  pub held : list_all is_item s.held ≡ true

-- the items of a state are such as a text may have
pub record HasItems (state : State) : Type 0 where
  pub front : list_all is_item state.front ≡ true
  pub sections : AllByRecursion HasSectionItems state.sections

-- each number is below the next one, and no number is given twice
abbrev pub AreNumbered : (next : ℕ) → List SectionState → Type 0
AreNumbered next [] = Unit {0}
AreNumbered next (s ∷ sections) = (s.number < next) × AllByRecursion (λ t. (t.number == s.number) ≡ false) sections × AreNumbered next sections

-- What holds of every state: its items are such as a text may have, no number was given twice, and the greatest was not given.
pub record IsState (state : State) : Type 0 where
  pub items : HasItems state
  pub numbers : AreNumbered state.next state.sections
  pub within : state.next ≤ no_number
