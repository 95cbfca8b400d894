-- Items of a text are items of a state.
use Rattle.std.proofs.Common.{◌≡◌, ℕ, ◌<◌, Bool, true, false, not, List, [], ◌∷◌, ◌++◌, length, Option, Some, None, refl, arith, inl, inr}
use Rattle.std.specs.Prelude.{◌&&◌}
use Rattle.std.specs.List.{list_all}
use Rattle.gitconf_text.specs.Bytes.{is_blank}
use Rattle.gitconf_text.specs.Text.{begins, ends, is_line_end}
use Rattle.gitconf_text.specs.Unit.{is_white}
use Rattle.gitconf_text.specs.Value.{Piece, Value, spelled_value, value_units, are_paired, IsEnded, FitsValue}
use Rattle.gitconf_text.specs.Header.{Header, PlainHeader, DottedHeader, QuotedHeader, FitsHeader}
use Rattle.gitconf_text.specs.Part.{Assigned, BlanksItem, LineEndsItem, CommentItem, EntryItem, Part, ItemPart, HeaderPart, FitsAssigned, FitsPart, AreFit}
use Rattle.gitconf_state.specs.State.{is_piece, is_value, is_assigned, is_item, is_header}
use Rattle.gitconf_state.proofs.Loading.Filters.{both_hold, fit_parts_pass}

-- what a part of a state is
abbrev pub is_part : Part → Bool
is_part (ItemPart i) = is_item i
is_part (HeaderPart h) = is_header h

-- a run of some bytes begins with one
filled_begins : (run : List ℕ) → 0 < length run → begins (λ _. true) run ≡ true
filled_begins [] some = absurd (let h : 0 < 0 = some in omega arith)
filled_begins (b ∷ run) some = refl

-- what does not hold is denied
not_of_false : (a : Bool) → a ≡ false → not a ≡ true
not_of_false true h = absurd (cc)
not_of_false false h = refl

-- the front of a text says how the text begins
begins_front : (test : ℕ → Bool) (front rest : List ℕ) → begins test (front ++ rest) ≡ false → begins test front ≡ false
begins_front test [] rest h = refl
begins_front test (b ∷ front) rest h = h

-- the pieces of a value of a text, and its last one
pieces_are : (pieces : List Piece) (last rest : List ℕ) → IsEnded pieces last rest → (list_all is_piece pieces ≡ true) × (ends is_white last ≡ false)
pieces_are [] last rest ended = (refl, ended.0)
pieces_are (p ∷ pieces) last rest ended = elim ended [
  | inl more ↦ let r = pieces_are pieces last rest more.1 in (both_hold (is_piece p) (list_all is_piece pieces) (whole p more.0) r.0, r.1)
  | inr bare_end ↦ (both_hold (is_piece p) (list_all is_piece pieces) (bare p bare_end.0) (rw bare_end.1 refl), rw bare_end.2 refl)
]
  where
    whole : (p : Piece) → is_line_end p.line_end ≡ true → is_piece p ≡ true
    whole p h = go p.line_end h
      where
        go : (line_end : List ℕ) → is_line_end line_end ≡ true → is_piece (record { text = p.text; line_end = line_end }) ≡ true
        go [] h = refl
        go (b ∷ bytes) h = h

    bare : (p : Piece) → p.line_end ≡ [] → is_piece p ≡ true
    bare p none = rw (none, is_piece) refl

-- a value of a text is one of a state
value_is : (v : Value) (rest : List ℕ) → FitsValue v rest → is_value v ≡ true
value_is v rest fits =
    let p = pieces_are v.pieces v.last rest fits.end in
    let front = not_of_false (begins is_blank (spelled_value v)) (begins_front is_blank (spelled_value v) rest fits.front) in
    let last = not_of_false (ends is_white v.last) p.1 in
    both_hold (not (begins is_blank (spelled_value v)) && are_paired false (value_units v) && list_all is_piece v.pieces) (not (ends is_white v.last))
    (both_hold (not (begins is_blank (spelled_value v)) && are_paired false (value_units v)) (list_all is_piece v.pieces)
    (both_hold (not (begins is_blank (spelled_value v))) (are_paired false (value_units v)) front fits.units) p.0) last

-- what is assigned in a text may be so in a state
assigned_is : (blanks : List ℕ) (assigned : Option Assigned) (rest : List ℕ) → FitsAssigned blanks assigned rest → is_assigned assigned ≡ true
assigned_is blanks None rest fits = refl
assigned_is blanks (Some a) rest fits = both_hold (list_all is_blank a.blanks) (is_value a.value) fits.0 (value_is a.value rest fits.1)

-- a header that fits is one of a state
header_is : (h : Header) → FitsHeader h → is_header h ≡ true
header_is (PlainHeader name) fits = fits.1
header_is (DottedHeader name subsection) fits = both_hold _ _ fits.0 fits.1
header_is (QuotedHeader name blanks spelling) fits =
    both_hold _ _ (both_hold _ _ (both_hold _ _ fits.0 (filled_begins blanks fits.1)) fits.2) fits.3

-- A part that may be in a text is one of a state.
pub part_is : (p : Part) (rest : List ℕ) → FitsPart p rest → is_part p ≡ true
part_is (ItemPart (BlanksItem run)) rest fits = refl
part_is (ItemPart (LineEndsItem run)) rest fits = both_hold _ _ (filled_begins run fits.0) fits.1
part_is (ItemPart (CommentItem tag text)) rest fits = both_hold _ _ fits.0 fits.1
part_is (ItemPart (EntryItem e)) rest fits = both_hold _ _ (both_hold _ _ fits.0 fits.1) (assigned_is e.blanks e.assigned rest fits.2)
part_is (HeaderPart h) rest fits = header_is h fits

-- So are fitting parts.
pub parts_are : (parts : List Part) → AreFit parts [] → list_all is_part parts ≡ true
parts_are = fit_parts_pass is_part part_is
