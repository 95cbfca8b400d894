-- An item as it is printed: what it is, what it leaves open, and that it says the same.
use Rattle.std.proofs.Common.{◌≡◌, ◌<◌, ℕ, Bool, true, false, not, List, [], ◌∷◌, ◌++◌, map, length, Option, Some, None, refl, ap, sym, subst, ◌∙◌, arith}
use Rattle.std.specs.Prelude.{◌==◌, if◌then◌else◌}
use Rattle.std.specs.List.{list_all, list_any, flat_map}
use Rattle.std.proofs.lemmas.Bool.{eqb-true}
use Rattle.gitconf_text.specs.Bytes.{is_blank}
use Rattle.gitconf_text.specs.Text.{begins, ends, is_line_end, are_line_ends}
use Rattle.gitconf_text.specs.Unit.{TextUnit, units_of, is_white}
use Rattle.gitconf_text.specs.Value.{Piece, spelled_value, value_units, are_paired}
use Rattle.gitconf_text.specs.Header.{Header, PlainHeader, DottedHeader, QuotedHeader, FitsHeader, is_spelling}
use Rattle.gitconf_text.specs.Part.{Assigned, Item, BlanksItem, LineEndsItem, CommentItem, EntryItem, ItemPart}
use Rattle.gitconf_text.specs.Token.{Token, NewlineToken}
use Rattle.gitconf_text.specs.Document.{document_entry}
use Rattle.gitconf_text.proofs.Tests.{both_true, false_not}
use Rattle.gitconf_state.specs.State.{is_piece, is_value, is_assigned, is_item, is_header, item_entries}
use Rattle.gitconf_state.specs.Clean.{has_blanks, is_nameless}
use Rattle.gitconf_state.specs.Comments.{item_comments}
use Rattle.gitconf_state.specs.LineEnds.{line_end_of}
use Rattle.gitconf_state.specs.Printing.{closed_piece, closed_assigned, closed_item}
use Rattle.gitconf_state.specs.Writing.{Open, OpenValue, OpenComment, after, after_entry}
use Rattle.gitconf_state.proofs.Printing.Apart.{AreClosed, IsSound}

-- the line ending of tokens is one line ending
pub line_end_of-is : (tokens : List Token) → is_line_end (line_end_of tokens) ≡ true
line_end_of-is [] = refl
line_end_of-is (NewlineToken run ∷ tokens) = go (list_any (λ b. b == 13) run)
  where
    go : (t : Bool) → is_line_end (if t then 13 ∷ 10 ∷ [] else 10 ∷ []) ≡ true
    go true = refl
    go false = refl
line_end_of-is (t ∷ tokens) = line_end_of-is tokens

-- one line ending is a run of them
pub line_end_sound : (line_end : List ℕ) → is_line_end line_end ≡ true → IsSound (ItemPart (LineEndsItem line_end))
line_end_sound [] h = absurd (cc)
line_end_sound (b ∷ []) h = (omega arith, rw h refl)
line_end_sound (b ∷ c ∷ []) h =
    let q = both_true (b == 13) (c == 10) h in
    (omega arith, subst (λ b. are_line_ends (b ∷ c ∷ []) ≡ true) (sym (eqb-true b 13 q.0)) (subst (λ c. are_line_ends (13 ∷ c ∷ []) ≡ true) (sym (eqb-true c 10 q.1)) refl))
line_end_sound (b ∷ c ∷ d ∷ rest) h = absurd (cc)

-- a piece keeps its text, and has a line ending
piece_text : (line_end text own : List ℕ) → (closed_piece line_end (record { text = text; line_end = own })).text ≡ text
piece_text line_end text [] = refl
piece_text line_end text (b ∷ own) = refl

-- a printed piece has a line ending
piece_closed : (line_end text own : List ℕ) → is_line_end line_end ≡ true → is_piece (record { text = text; line_end = own }) ≡ true
    → is_line_end (closed_piece line_end (record { text = text; line_end = own })).line_end ≡ true
piece_closed line_end text [] closes h = closes
piece_closed line_end text (b ∷ own) closes h = h

-- so have all printed pieces
pieces_closed : (line_end : List ℕ) (pieces : List Piece) → is_line_end line_end ≡ true → list_all is_piece pieces ≡ true → list_all (λ (p : Piece). is_line_end p.line_end) (map (closed_piece line_end) pieces) ≡ true
pieces_closed line_end [] closes all = refl
pieces_closed line_end (p ∷ pieces) closes all =
    let q = both_true (is_piece p) (list_all is_piece pieces) all in
    rw (piece_closed line_end p.text p.line_end closes q.0) (pieces_closed line_end pieces closes q.1)

-- printed pieces have the units of the pieces
pieces_units : (line_end : List ℕ) (pieces : List Piece) → flat_map (λ (p : Piece). units_of p.text) (map (closed_piece line_end) pieces) ≡ flat_map (λ (p : Piece). units_of p.text) pieces
pieces_units line_end [] = refl
pieces_units line_end (p ∷ pieces) =
    ap (λ (t : List ℕ). units_of t ++ flat_map (λ (p : Piece). units_of p.text) (map (closed_piece line_end) pieces)) (piece_text line_end p.text p.line_end)
    ∙ ap (λ t. units_of p.text ++ t) (pieces_units line_end pieces)

-- printed pieces have the raw text of the pieces
pieces_raw : (line_end : List ℕ) (pieces : List Piece) → flat_map (λ (p : Piece). p.text) (map (closed_piece line_end) pieces) ≡ flat_map (λ (p : Piece). p.text) pieces
pieces_raw line_end [] = refl
pieces_raw line_end (p ∷ pieces) =
    ap (λ (t : List ℕ). t ++ flat_map (λ (p : Piece). p.text) (map (closed_piece line_end) pieces)) (piece_text line_end p.text p.line_end)
    ∙ ap (λ t. p.text ++ t) (pieces_raw line_end pieces)

-- the bytes of pieces
abbrev spelled_pieces : List Piece → List ℕ
spelled_pieces pieces = flat_map (λ (p : Piece). p.text ++ 92 ∷ p.line_end) pieces

-- a value keeps its first byte
value_front : (line_end : List ℕ) (pieces : List Piece) (last : List ℕ) → begins is_blank (spelled_pieces pieces ++ last) ≡ false → begins is_blank (spelled_pieces (map (closed_piece line_end) pieces) ++ last) ≡ false
value_front line_end [] last h = h
value_front line_end (p ∷ pieces) last h = rw (piece_text line_end p.text p.line_end) (go p.text h)
  where
    go : (text : List ℕ) → begins is_blank (((text ++ 92 ∷ p.line_end) ++ spelled_pieces pieces) ++ last) ≡ false
        → begins is_blank (((text ++ 92 ∷ (closed_piece line_end p).line_end) ++ spelled_pieces (map (closed_piece line_end) pieces)) ++ last) ≡ false
    go [] h = refl
    go (b ∷ text) h = h

-- what is assigned is, as it is printed, a value that a text may have
assigned_closed : (line_end : List ℕ) (a : Option Assigned) → is_line_end line_end ≡ true → is_assigned a ≡ true → AreClosed (closed_assigned line_end a)
assigned_closed line_end None closes h = tt
assigned_closed line_end (Some a) closes h =
    let q = both_true (list_all is_blank a.blanks) (is_value a.value) h in
    let last = both_true _ (not (ends is_white a.value.last)) q.1 in
    let pieces = both_true _ (list_all is_piece a.value.pieces) last.0 in
    let units = both_true (not (begins is_blank (spelled_value a.value))) (are_paired false (value_units a.value)) pieces.0 in
    record {
      blanks = q.0;
      front = value_front line_end a.value.pieces a.value.last (false_not _ units.0);
      units = subst (λ (t : List TextUnit). are_paired false (t ++ units_of a.value.last) ≡ true) (sym (pieces_units line_end a.value.pieces)) units.1;
      pieces = pieces_closed line_end a.value.pieces closes pieces.1;
      last = false_not _ last.1;
    }

-- a run that begins has a byte
run_some : (run : List ℕ) → begins (λ _. true) run ≡ true → 0 < length run
run_some [] h = absurd (cc)
run_some (b ∷ run) h = omega arith

-- an item of a state is sound as it is printed
pub item_sound : (line_end : List ℕ) (i : Item) → is_line_end line_end ≡ true → is_item i ≡ true → has_blanks i ≡ true → IsSound (ItemPart (closed_item line_end i))
item_sound line_end (BlanksItem run) closes is blanks = blanks
item_sound line_end (LineEndsItem run) closes is blanks = let q = both_true (begins (λ _. true) run) (are_line_ends run) is in (run_some run q.0, q.1)
item_sound line_end (CommentItem tag text) closes is blanks = both_true _ _ is
item_sound line_end (EntryItem e) closes is blanks =
    let q = both_true _ (is_assigned e.assigned) is in
    let r = both_true _ (list_all is_blank e.blanks) q.0 in
    (r.0, r.1, assigned_closed line_end e.assigned closes q.1)

-- a header of a state is one that a text may have
pub header_sound : (h : Header) → is_header h ≡ true → is_nameless h ≡ false → FitsHeader h
header_sound (PlainHeader []) is named = absurd (cc)
header_sound (PlainHeader (b ∷ name)) is named = (omega arith, is)
header_sound (DottedHeader name subsection) is named = both_true _ _ is
header_sound (QuotedHeader name blanks spelling) is named =
    let q = both_true _ (is_spelling spelling) is in
    let r = both_true _ (list_all is_blank blanks) q.0 in
    let s = both_true _ (begins (λ _. true) blanks) r.0 in
    (s.0, run_some blanks s.1, r.1, q.1)

-- a printed entry leaves open what the entry does
entry_after : (line_end : List ℕ) (before : Open) (blanks : List ℕ) (a : Option Assigned) → after_entry before blanks (closed_assigned line_end a) ≡ after_entry before blanks a
entry_after line_end OpenComment blanks None = refl
entry_after line_end OpenComment blanks (Some a) = go a.value.pieces
  where
    go : (pieces : List Piece) → ◌≡◌ {A = Open} (elim (map (closed_piece line_end) pieces) [ [] ↦ OpenComment | p ∷ pieces ↦ OpenValue ]) (elim pieces [ [] ↦ OpenComment | p ∷ pieces ↦ OpenValue ])
    go [] = refl
    go (p ∷ pieces) = refl
entry_after line_end before blanks None = refl
entry_after line_end before blanks (Some a) = refl

-- a printed item leaves open what the item does
pub item_after : (line_end : List ℕ) (before : Open) (i : Item) → after before (closed_item line_end i) ≡ after before i
item_after line_end before (BlanksItem run) = refl
item_after line_end before (LineEndsItem run) = refl
item_after line_end before (CommentItem tag text) = refl
item_after line_end before (EntryItem e) = entry_after line_end before e.blanks e.assigned

-- a printed item has the entry of the item
pub item_entries-is : (line_end : List ℕ) (i : Item) → item_entries (closed_item line_end i) ≡ item_entries i
item_entries-is line_end (BlanksItem run) = refl
item_entries-is line_end (LineEndsItem run) = refl
item_entries-is line_end (CommentItem tag text) = refl
item_entries-is line_end (EntryItem e) = go e.assigned
  where
    go : (a : Option Assigned) → document_entry (record { name = e.name; blanks = e.blanks; assigned = closed_assigned line_end a }) ∷ [] ≡ document_entry (record { name = e.name; blanks = e.blanks; assigned = a }) ∷ []
    go None = refl
    go (Some a) = ap (λ (t : List ℕ). (record { name = e.name; raw = Some (t ++ a.value.last) }) ∷ []) (pieces_raw line_end a.value.pieces)

-- a printed item has the comment of the item
pub item_comments-is : (line_end : List ℕ) (i : Item) → item_comments (closed_item line_end i) ≡ item_comments i
item_comments-is line_end (BlanksItem run) = refl
item_comments-is line_end (LineEndsItem run) = refl
item_comments-is line_end (CommentItem tag text) = refl
item_comments-is line_end (EntryItem e) = refl
