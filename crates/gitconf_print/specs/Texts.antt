-- The texts that are written.
use Rattle.std.specs.Prelude.{ℕ, Bool, true, false, List, [], ◌∷◌, ◌++◌, map, flat_map, if◌then◌else◌}
use Rattle.std.specs.Str.{bytes_eq}
use Rattle.gitconf_text.specs.Value.{Piece, Value}
use Rattle.gitconf_text.specs.Header.{Header, spelled_header}
use Rattle.gitconf_text.specs.Part.{Item, spelled_item}
use Rattle.gitconf_state.specs.Printing.{closed_piece, unless, behind_header}
use Rattle.gitconf_state.specs.LineEnds.{line_end_of, ends_line}
use Rattle.gitconf_state.specs.Writing.{Open, Closed, after, breaks_behind, written_items}
use Rattle.gitconf_items.specs.Items.{tokens_in}

-- the bytes of a piece, with its backslash and its line ending
abbrev pub spelled_piece : Piece → List ℕ
spelled_piece p = p.text ++ 92 ∷ p.line_end

-- a value with a line ending after each piece but the last
abbrev pub closed_value : (line_end : List ℕ) → Value → Value
closed_value line_end v = record { pieces = map (closed_piece line_end) v.pieces; last = v.last }

-- the text of items, as they are printed after what comes before
abbrev pub items_text : (in_body : Bool) → (line_end : List ℕ) → Open → List Item → List ℕ
items_text in_body line_end before items = flat_map spelled_item (written_items in_body line_end before items)

-- the text of an item after what comes before: a line ending, if the two would otherwise run together, and the item
abbrev pub next_text : (in_body : Bool) → (line_end : List ℕ) → Open → Item → List ℕ
next_text in_body line_end before i = items_text in_body line_end before (i ∷ [])

-- the line ending before an item, if one is written
abbrev pub line_end_before : (in_body : Bool) → (line_end : List ℕ) → Open → Item → List ℕ
line_end_before in_body line_end before i = elim (breaks_behind in_body before i) [ true ↦ line_end | false ↦ [] ]

-- what comes before an item, after that line ending
abbrev pub open_before : (in_body : Bool) → Open → Item → Open
open_before in_body before i = elim (breaks_behind in_body before i) [ true ↦ Closed | false ↦ before ]

-- what comes before the next item, after this one
abbrev pub behind_next : (in_body : Bool) → Open → Item → Open
behind_next in_body before i = elim (breaks_behind in_body before i) [ true ↦ after Closed i | false ↦ after before i ]

-- a subsection after its separator: after a dot as it is, otherwise in quotes
abbrev pub subsection_text : (separator subsection : List ℕ) → List ℕ
subsection_text separator subsection =
    if bytes_eq separator (46 ∷ []) then separator ++ subsection else separator ++ 34 ∷ (subsection ++ 34 ∷ [])

-- the text of a section, header and body, with this line ending
abbrev pub section_lines : (line_end : List ℕ) → Header → List Item → List ℕ
section_lines line_end header items =
    spelled_header header ++ (flat_map spelled_item (behind_header line_end items) ++ items_text true line_end Closed items)

-- the text of a section with this header and body, with the body's own line ending
abbrev pub section_text : Header → List Item → List ℕ
section_text header items = section_lines (line_end_of (tokens_in items)) header items

-- the text of what is held after a section with this body
abbrev pub held_text : (line_end : List ℕ) → (items held : List Item) → List ℕ
held_text line_end items [] = []
held_text line_end items (i ∷ held) = flat_map spelled_item (unless (ends_line line_end items) line_end) ++ items_text false line_end Closed (i ∷ held)
