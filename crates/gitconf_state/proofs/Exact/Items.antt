-- Items of a text that ends with LF: each piece that continues has its line ending, and the last item is line endings, if no value is left open there.
use Rattle.std.proofs.Common.{◌≡◌, ℕ, ◌<◌, Bool, true, false, List, [], ◌∷◌, ◌++◌, flat_map, map, Option, Some, None, refl, ap, subst, ◌∙◌, append_assoc, append-nil, arith, inl, inr}
use Rattle.std.specs.Char.{is_ascii_alphabetic}
use Rattle.std.specs.List.{list_all}
use Rattle.gitconf_text.specs.Bytes.{is_blank, is_name_byte}
use Rattle.gitconf_text.specs.Text.{is_line_end}
use Rattle.gitconf_text.specs.Unit.{is_mark}
use Rattle.gitconf_text.specs.Value.{Piece, spelled_value, IsEnded}
use Rattle.gitconf_text.specs.Header.{Header, PlainHeader, DottedHeader, QuotedHeader, spelled_header}
use Rattle.gitconf_text.specs.Names.{is_value_name}
use Rattle.gitconf_text.specs.Part.{Assigned, Entry, Item, BlanksItem, LineEndsItem, CommentItem, EntryItem, ItemPart, spelled_assigned, spelled_item, FitsAssigned, FitsItem}
use Rattle.gitconf_text.proofs.Tests.{both_true, apart, false_not}
use Rattle.gitconf_state.specs.Printing.{closed_piece, closed_assigned, closed_item}
use Rattle.gitconf_state.specs.Inserted.{ends_empty, values_are_closed}
use Rattle.gitconf_state.proofs.Loading.Filters.{both_hold}
use Rattle.gitconf_state.proofs.Exact.Ends.{is_no_feed, EndsLine, rest_ends_line, no_line_ends, none_feeds, no_feeds, last_piece}

-- a piece that has a line ending gets none
piece_same : (line_end : List ℕ) (p : Piece) → is_line_end p.line_end ≡ true → closed_piece line_end p ≡ p
piece_same line_end p is = go p.line_end is
  where
    go : (own : List ℕ) → is_line_end own ≡ true → closed_piece line_end (record { text = p.text; line_end = own }) ≡ record { text = p.text; line_end = own }
    go [] is = absurd (cc)
    go (b ∷ bytes) is = refl

-- a backslash at the end of the input doesn't end a line
bare_backslash : (p : Piece) (pieces : List Piece) (last rest : List ℕ) → p.line_end ≡ [] → pieces ≡ [] → last ≡ [] → rest ≡ []
    → EndsLine ((flat_map (λ (p : Piece). p.text ++ 92 ∷ p.line_end) (p ∷ pieces) ++ last) ++ rest) → ⊥
bare_backslash p pieces last rest bare none empty nothing ended =
    let short : EndsLine (p.text ++ 92 ∷ []) = subst EndsLine (rw (bare, none, empty, nothing) (append-nil _ ∙ append-nil _ ∙ append-nil _)) ended in
    no_line_ends 92 [] refl (rest_ends_line p.text (92 ∷ []) short)

-- the pieces of a value that ends a line, or before which one ends, have their line endings
pieces_same : (line_end : List ℕ) (pieces : List Piece) (last rest : List ℕ) → IsEnded pieces last rest
    → EndsLine ((flat_map (λ (p : Piece). p.text ++ 92 ∷ p.line_end) pieces ++ last) ++ rest) → map (closed_piece line_end) pieces ≡ pieces
pieces_same line_end [] last rest ended line = refl
pieces_same line_end (p ∷ pieces) last rest ended line = elim ended [
  | inl more ↦
      let text = p.text ++ 92 ∷ p.line_end in
      let later = flat_map (λ (p : Piece). p.text ++ 92 ∷ p.line_end) pieces in
      let line_later : EndsLine ((later ++ last) ++ rest) = rest_ends_line text ((later ++ last) ++ rest) (subst EndsLine (regroup text later last rest) line) in
      ap (λ (x : Piece). x ∷ map (closed_piece line_end) pieces) (piece_same line_end p more.0) ∙ ap (λ xs. p ∷ xs) (pieces_same line_end pieces last rest more.1 line_later)
  | inr bare ↦ absurd (bare_backslash p pieces last rest bare.0 bare.1 bare.2 bare.3 line)
]
  where
    regroup : (text later last rest : List ℕ) → ((text ++ later) ++ last) ++ rest ≡ text ++ ((later ++ last) ++ rest)
    regroup text later last rest = simp append_assoc

-- An item of a text that ends a line is printed as it is.
pub item_same : (line_end : List ℕ) (i : Item) (rest : List ℕ) → FitsItem i rest → EndsLine (spelled_item i ++ rest) → closed_item line_end i ≡ i
item_same line_end (BlanksItem run) rest fits line = refl
item_same line_end (LineEndsItem run) rest fits line = refl
item_same line_end (CommentItem tag text) rest fits line = refl
item_same line_end (EntryItem e) rest fits line = ap (λ a. EntryItem (record { name = e.name; blanks = e.blanks; assigned = a })) (go e.assigned fits.2 line)
  where
    regroup : (name blanks more value rest : List ℕ) → (name ++ (blanks ++ 61 ∷ (more ++ value))) ++ rest ≡ (name ++ (blanks ++ 61 ∷ more)) ++ (value ++ rest)
    regroup name blanks more value rest = simp append_assoc

    go : (assigned : Option Assigned) → FitsAssigned e.blanks assigned rest → EndsLine ((e.name ++ (e.blanks ++ spelled_assigned assigned)) ++ rest)
        → closed_assigned line_end assigned ≡ assigned
    go None fits line = refl
    go (Some a) fits line =
        let value = spelled_value a.value in
        let line_value : EndsLine (value ++ rest) = rest_ends_line (e.name ++ (e.blanks ++ 61 ∷ a.blanks)) (value ++ rest) (subst EndsLine (regroup e.name e.blanks a.blanks value rest) line) in
        ap (λ (pieces : List Piece). Some (record { blanks = a.blanks; value = record { pieces = pieces; last = a.value.last } }))
        (pieces_same line_end a.value.pieces a.value.last rest fits.1.end line_value)

-- a header ends with a bracket
pub header_ends_no_line : (h : Header) → EndsLine (spelled_header h ++ []) → ⊥
header_ends_no_line (PlainHeader name) line = no_line_ends 93 [] refl (rest_ends_line (91 ∷ name) (93 ∷ []) (subst EndsLine (append-nil _) line))
header_ends_no_line (DottedHeader name subsection) line =
    no_line_ends 93 [] refl (rest_ends_line (91 ∷ (name ++ 46 ∷ subsection)) (93 ∷ []) (subst EndsLine (append-nil _ ∙ regroup) line))
  where
    regroup : 91 ∷ (name ++ 46 ∷ (subsection ++ 93 ∷ [])) ≡ (91 ∷ (name ++ 46 ∷ subsection)) ++ 93 ∷ []
    regroup = simp append_assoc
header_ends_no_line (QuotedHeader name blanks spelling) line =
    no_line_ends 93 [] refl (rest_ends_line (91 ∷ (name ++ (blanks ++ 34 ∷ (spelling ++ 34 ∷ [])))) (93 ∷ []) (subst EndsLine (append-nil _ ∙ regroup) line))
  where
    regroup : 91 ∷ (name ++ (blanks ++ 34 ∷ (spelling ++ 34 ∷ 93 ∷ []))) ≡ (91 ∷ (name ++ (blanks ++ 34 ∷ (spelling ++ 34 ∷ [])))) ++ 93 ∷ []
    regroup = simp append_assoc

-- a value's name has no LF
name_has_none : (name : List ℕ) → is_value_name name ≡ true → list_all is_no_feed name ≡ true
name_has_none [] is = absurd (cc)
name_has_none (b ∷ name) is =
    let p = both_true (is_ascii_alphabetic b) (list_all is_name_byte name) is in
    both_hold (is_no_feed b) (list_all is_no_feed name) (rw (apart is_ascii_alphabetic 10 b refl p.0) refl) (none_feeds is_name_byte name refl p.1)

-- a text without LF, after a name, doesn't end a line
entry_ends_no_line : (name more : List ℕ) → is_value_name name ≡ true → list_all is_no_feed more ≡ true → EndsLine (name ++ more) → ⊥
entry_ends_no_line [] more is all line = cc
entry_ends_no_line (b ∷ name) more is all line = no_line_ends b (name ++ more) (no_feeds (b ∷ name) more (name_has_none (b ∷ name) is) all) line

-- an entry that ends a line ends with an empty last piece
last_entry : (e : Entry) → FitsItem (EntryItem e) [] → EndsLine (spelled_item (EntryItem e)) → ends_empty e.assigned ≡ false → ⊥
last_entry e fits line closed = go e.assigned fits.2 line closed
  where
    regroup : (name blanks more pieces last : List ℕ) → name ++ (blanks ++ 61 ∷ (more ++ (pieces ++ last))) ≡ (name ++ (blanks ++ 61 ∷ (more ++ pieces))) ++ last
    regroup name blanks more pieces last = simp append_assoc

    go : (assigned : Option Assigned) → FitsAssigned e.blanks assigned [] → EndsLine (e.name ++ (e.blanks ++ spelled_assigned assigned)) → ends_empty assigned ≡ false → ⊥
    go None fits_assigned line closed =
        entry_ends_no_line e.name (e.blanks ++ []) fits.0 (no_feeds e.blanks [] (none_feeds is_blank e.blanks refl fits.1) refl) line
    go (Some a) fits_assigned line closed = value a.value.pieces a.value.last (last_piece a.value.pieces a.value.last fits_assigned.1.units) line closed
      where
        value : (pieces : List Piece) (last : List ℕ) → list_all is_no_feed last ≡ true
            → EndsLine (e.name ++ (e.blanks ++ 61 ∷ (a.blanks ++ (flat_map (λ (p : Piece). p.text ++ 92 ∷ p.line_end) pieces ++ last))))
            → ends_empty (Some (record { blanks = a.blanks; value = record { pieces = pieces; last = last } })) ≡ false → ⊥
        value [] last all line closed =
            entry_ends_no_line e.name (e.blanks ++ 61 ∷ (a.blanks ++ last)) fits.0
            (no_feeds e.blanks (61 ∷ (a.blanks ++ last)) (none_feeds is_blank e.blanks refl fits.1) (no_feeds (61 ∷ a.blanks) last (none_feeds is_blank a.blanks refl fits_assigned.0) all)) line
        value (p ∷ pieces) [] all line closed = cc
        value (p ∷ pieces) (b ∷ last) all line closed =
            let later = flat_map (λ (p : Piece). p.text ++ 92 ∷ p.line_end) (p ∷ pieces) in
            no_line_ends b last all (rest_ends_line (e.name ++ (e.blanks ++ 61 ∷ (a.blanks ++ later))) (b ∷ last) (subst EndsLine (regroup e.name e.blanks a.blanks later (b ∷ last)) line))

-- The last item of a text that ends a line is line endings, if no value is left open.
pub last_line_ends : (open_value : Bool) (i : Item) → FitsItem i [] → EndsLine (spelled_item i) → values_are_closed open_value (ItemPart i ∷ []) ≡ true → (run : List ℕ) × (i ≡ LineEndsItem run)
last_line_ends open_value (BlanksItem []) fits line closed = absurd (let h : 0 < 0 = fits.0 in omega arith)
last_line_ends open_value (BlanksItem (b ∷ run)) fits line closed = absurd (no_line_ends b run (none_feeds is_blank (b ∷ run) refl fits.1) line)
last_line_ends open_value (LineEndsItem run) fits line closed = (run, refl)
last_line_ends open_value (CommentItem tag text) fits line closed =
    absurd (no_line_ends tag text (both_hold (is_no_feed tag) (list_all is_no_feed text) (rw (apart is_mark 10 tag refl fits.0) refl) fits.1) line)
last_line_ends open_value (EntryItem e) fits line closed = absurd (last_entry e fits line (false_not (ends_empty e.assigned) closed))
