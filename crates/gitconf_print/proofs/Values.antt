-- The text of a value, piece by piece.
use Rattle.std.proofs.Common.{◌≡◌, ℕ, ◌+◌, ◌<◌, ◌≤◌, List, ◌++◌, length, get_or, drop, map, ◌∙◌, append_assoc}
use Rattle.std.proofs.lemmas.List.{at_drop_more, at_drop_all}
use Rattle.std.specs.Prelude.{flat_map}
use Rattle.gitconf_text.specs.Value.{spelled_value}
use Rattle.gitconf_items.specs.declared.event.Span.{Span}
use Rattle.gitconf_items.specs.declared.entry.Piece.{Piece}
use Rattle.gitconf_items.specs.Events.{bytes_of}
use Rattle.gitconf_items.specs.Items.{piece_of}
use Rattle.gitconf_state.specs.Printing.{closed_piece}
use Rattle.gitconf_print.specs.Texts.{spelled_piece, closed_value}

-- a value of these pieces and this last one, as it is printed
abbrev pub pieces_text : (line_end buffer : List ℕ) (last : Span) → List Piece → List ℕ
pieces_text line_end buffer last pieces =
    spelled_value (closed_value line_end (record { pieces = map (piece_of buffer) pieces; last = bytes_of buffer last }))

abbrev pub piece_text : (line_end buffer : List ℕ) → Piece → List ℕ
piece_text line_end buffer p = spelled_piece (closed_piece line_end (piece_of buffer p))

-- the next piece, and the others after it
pub next_piece : (line_end buffer : List ℕ) (last : Span) (pieces : List Piece) (i : ℕ) (d : Piece) → i < length pieces
    → pieces_text line_end buffer last (drop i pieces) ≡ piece_text line_end buffer (get_or pieces i d) ++ pieces_text line_end buffer last (drop (i + 1) pieces)
next_piece line_end buffer last pieces i d within =
    at_drop_more (pieces_text line_end buffer last) pieces i d within
    ∙ append_assoc (piece_text line_end buffer (get_or pieces i d)) (flat_map spelled_piece (map (closed_piece line_end) (map (piece_of buffer) (drop (i + 1) pieces)))) (bytes_of buffer last)

-- after all pieces the last one
pub last_piece : (line_end buffer : List ℕ) (last : Span) (pieces : List Piece) (i : ℕ) → length pieces ≤ i
    → pieces_text line_end buffer last (drop i pieces) ≡ bytes_of buffer last
last_piece line_end buffer last pieces i past = at_drop_all (pieces_text line_end buffer last) pieces i past
