-- The text of a state: its parts, with a line ending inserted where two of them would otherwise run together.
-- Source: this project's profile.
use Rattle.std.specs.Prelude.{ℕ, Bool, true, false, not, List, [], ◌∷◌, ◌++◌, ◌&&◌, ◌||◌, map, Option, Some, None}
use Rattle.std.specs.List.{list_any}
use Rattle.gitconf_text.specs.Value.{Piece}
use Rattle.gitconf_text.specs.Part.{Assigned, Item, BlanksItem, LineEndsItem, CommentItem, EntryItem, Part, ItemPart, HeaderPart, spelled}
use Rattle.gitconf_state.specs.State.{SectionState, State, is_comment, is_entry}
use Rattle.gitconf_state.specs.LineEnds.{section_line_end, file_line_end, ends_line}

-- the value has more than one piece
abbrev pub has_pieces : Option Assigned → Bool
has_pieces None = false
has_pieces (Some a) = elim a.value.pieces [ [] ↦ false | p ∷ pieces ↦ true ]

-- the items since the last line ending, after one more item; an entry whose value has several pieces ends on a line of its own
abbrev pub line_after : (line : List Item) → Item → List Item
line_after line (LineEndsItem run) = []
line_after line (EntryItem e) = elim (has_pieces e.assigned) [ true ↦ EntryItem e ∷ [] | false ↦ line ++ EntryItem e ∷ [] ]
line_after line i = line ++ i ∷ []

-- A line ending is inserted before a comment after a comment on its line, and in a body before an entry after a comment or an entry on its
-- line.
abbrev pub breaks : (in_body : Bool) → (line : List Item) → Item → Bool
breaks in_body line (CommentItem tag text) = list_any is_comment line
breaks in_body line (EntryItem e) = in_body && list_any (λ i. is_comment i || is_entry i) line
breaks in_body line i = false

-- a piece without a line ending gets one
abbrev pub closed_piece : (line_end : List ℕ) → Piece → Piece
closed_piece line_end p = elim p.line_end [ [] ↦ record { text = p.text; line_end = line_end } | b ∷ bs ↦ p ]

-- what is assigned, in which each piece that has no line ending gets one
abbrev pub closed_assigned : (line_end : List ℕ) → Option Assigned → Option Assigned
closed_assigned line_end None = None
closed_assigned line_end (Some a) =
    Some (record { blanks = a.blanks; value = record { pieces = map (closed_piece line_end) a.value.pieces; last = a.value.last } })

-- the item, in which each piece of a value that has no line ending gets one
abbrev pub closed_item : (line_end : List ℕ) → Item → Item
closed_item line_end (BlanksItem run) = BlanksItem run
closed_item line_end (LineEndsItem run) = LineEndsItem run
closed_item line_end (CommentItem tag text) = CommentItem tag text
closed_item line_end (EntryItem e) = EntryItem (record { name = e.name; blanks = e.blanks; assigned = closed_assigned line_end e.assigned })

-- items as they are printed; `line`: the items since the last line ending
abbrev pub printed_items : (in_body : Bool) → (line_end : List ℕ) → (line : List Item) → List Item → List Item
printed_items in_body line_end line [] = []
printed_items in_body line_end line (i ∷ items) = elim (breaks in_body line i) [
  | true ↦ LineEndsItem line_end ∷ closed_item line_end i ∷ printed_items in_body line_end (line_after [] i) items
  | false ↦ closed_item line_end i ∷ printed_items in_body line_end (line_after line i) items
]

-- there is a line ending before the first entry
abbrev pub begins_on_a_line : List Item → Bool
begins_on_a_line [] = false
begins_on_a_line (BlanksItem run ∷ items) = begins_on_a_line items
begins_on_a_line (LineEndsItem run ∷ items) = true
begins_on_a_line (CommentItem tag text ∷ items) = begins_on_a_line items
begins_on_a_line (EntryItem e ∷ items) = false

-- a line ending, unless there is one
abbrev pub unless : Bool → (line_end : List ℕ) → List Item
unless true line_end = []
unless false line_end = LineEndsItem line_end ∷ []

-- After a header a line ending is inserted, unless the body is empty or begins on a line of its own.
abbrev pub behind_header : (line_end : List ℕ) → List Item → List Item
behind_header line_end [] = []
behind_header line_end (i ∷ items) = unless (begins_on_a_line (i ∷ items)) line_end

-- a section's body as it is printed, with its own line ending
abbrev pub printed_body : SectionState → List Item
printed_body s = behind_header (section_line_end s) s.items ++ printed_items true (section_line_end s) [] s.items

-- a section alone: its header and body
abbrev pub section_parts : SectionState → List Part
section_parts s = HeaderPart s.header ∷ map ItemPart (printed_body s)

-- a section, with the items held after it, ends with a line ending
abbrev pub ends_with_line : (line_end : List ℕ) → SectionState → Bool
ends_with_line line_end s = elim s.held [ [] ↦ ends_line line_end s.items | i ∷ held ↦ ends_line line_end s.held ]

-- the items held after a section, printed on a line of their own
abbrev pub held_items : (line_end : List ℕ) → SectionState → List Item
held_items line_end s = elim s.held [
  | [] ↦ []
  | i ∷ held ↦ unless (ends_line line_end s.items) line_end ++ printed_items false line_end [] s.held
]

-- The printed sections in order. If the last printed one, with what is held after it, ended without a line ending, one comes before each
-- section, even before one that is not printed, and at the end.
abbrev pub sections_parts : (keeps : SectionState → Bool) → (line_end : List ℕ) → (ended : Bool) → List SectionState → List Part
sections_parts keeps line_end ended [] = map ItemPart (unless ended line_end)
sections_parts keeps line_end ended (s ∷ sections) = map ItemPart (unless ended line_end) ++ elim (keeps s) [
  | true ↦ section_parts s ++ (map ItemPart (held_items line_end s) ++ sections_parts keeps line_end (ends_with_line line_end s) sections)
  | false ↦ sections_parts keeps line_end ended sections
]

-- A line ending follows a front that is not empty and doesn't end with one, if a section is printed.
abbrev pub behind_front : (keeps : SectionState → Bool) → State → List Item
behind_front keeps state = elim state.front [
  | [] ↦ []
  | i ∷ front ↦ unless (ends_line (file_line_end state) state.front || not (list_any keeps state.sections)) (file_line_end state)
]

-- the parts of what is printed with a filter of sections: the front, and the sections that it keeps
abbrev pub printed_parts : (keeps : SectionState → Bool) → State → List Part
printed_parts keeps state =
    map ItemPart (printed_items false (file_line_end state) [] state.front ++ behind_front keeps state)
    ++ sections_parts keeps (file_line_end state) true state.sections

-- the text of the front and of the sections that a filter keeps
abbrev pub printed_kept : (keeps : SectionState → Bool) → State → List ℕ
printed_kept keeps state = spelled (printed_parts keeps state)

-- the text of a state
abbrev pub printed : State → List ℕ
printed state = printed_kept (λ _. true) state

-- the text of a section alone
abbrev pub printed_section : SectionState → List ℕ
printed_section s = spelled (section_parts s)
