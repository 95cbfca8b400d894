-- The tokens of a text can be read as items, and so can some of them, where all that make entries are among them.
use Rattle.std.proofs.Common.{◌≡◌, ℕ, Bool, true, false, not, List, [], ◌∷◌, ◌++◌, flat_map, Option, Some, None, refl, ap, sym, ◌∙◌, inl, inr, append_assoc}
use Rattle.std.specs.Prelude.{◌&&◌}
use Rattle.gitconf_text.specs.Value.{Piece}
use Rattle.gitconf_text.specs.Part.{Assigned, BlanksItem, LineEndsItem, CommentItem, EntryItem, Part, ItemPart, HeaderPart}
use Rattle.gitconf_text.specs.Token.{Token, CommentToken, HeaderToken, NameToken, ValueToken, NewlineToken, ValueNotDoneToken, ValueDoneToken, WhitespaceToken, SeparatorToken, filled, piece_tokens, value_tokens, assigned_tokens, tokens_of}
use Rattle.gitconf_items.specs.EventRef.{Shown}
use Rattle.gitconf_items.specs.EventList.{EventList, may_miss, IsSelection, IsSelected, IsWhole, IsParsed}
use Rattle.gitconf_items.specs.Grouping.{Place, Between, BehindName, BehindNameBlanks, BehindSeparator, BehindSeparatorBlanks, BehindPiece, BehindPieceEnd, is_filled, are_items}
use Rattle.gitconf_items.proofs.Selections.{parsed_selected}

both : (a b : Bool) → (a && b) ≡ true → (a ≡ true) × (b ≡ true)
both true b h = (refl, h)
both false b h = absurd (cc)

-- the line ending after a piece, and blanks, are there or not
behind_line_end : (line_end : List ℕ) (pieces last rest : List Token) → (are_items BehindPiece ((pieces ++ last) ++ rest) ≡ true) × (are_items BehindPieceEnd ((pieces ++ last) ++ rest) ≡ true)
    → are_items BehindPiece (((filled NewlineToken line_end ++ pieces) ++ last) ++ rest) ≡ true
behind_line_end [] pieces last rest r = r.0
behind_line_end (x ∷ xs) pieces last rest r = r.1

-- pieces, and the last one, after a piece or after its line ending
behind_piece : (pieces : List Piece) (last : List ℕ) (rest : List Token) → are_items Between rest ≡ true
    → (are_items BehindPiece ((flat_map piece_tokens pieces ++ ValueDoneToken last ∷ []) ++ rest) ≡ true)
    × (are_items BehindPieceEnd ((flat_map piece_tokens pieces ++ ValueDoneToken last ∷ []) ++ rest) ≡ true)
behind_piece [] last rest go_on = (go_on, go_on)
behind_piece (x ∷ pieces) last rest go_on =
    let r = behind_line_end x.line_end (flat_map piece_tokens pieces) (ValueDoneToken last ∷ []) rest (behind_piece pieces last rest go_on) in (r, r)

-- a value, after a separator or after blanks
behind_separator : (pieces : List Piece) (last : List ℕ) (rest : List Token) → are_items Between rest ≡ true
    → (are_items BehindSeparator (value_tokens pieces last ++ rest) ≡ true) × (are_items BehindSeparatorBlanks (value_tokens pieces last ++ rest) ≡ true)
behind_separator [] last rest go_on = (go_on, go_on)
behind_separator (x ∷ pieces) last rest go_on =
    let r = behind_line_end x.line_end (flat_map piece_tokens pieces) (ValueDoneToken last ∷ []) rest (behind_piece pieces last rest go_on) in (r, r)

behind_separator_blanks : (blanks : List ℕ) (value rest : List Token) → (are_items BehindSeparator (value ++ rest) ≡ true) × (are_items BehindSeparatorBlanks (value ++ rest) ≡ true)
    → are_items BehindSeparator ((filled WhitespaceToken blanks ++ value) ++ rest) ≡ true
behind_separator_blanks [] value rest r = r.0
behind_separator_blanks (x ∷ xs) value rest r = r.1

-- what is assigned, after a name or after blanks
behind_name : (assigned : Option Assigned) (rest : List Token) → are_items Between rest ≡ true
    → (are_items BehindName (assigned_tokens assigned ++ rest) ≡ true) × (are_items BehindNameBlanks (assigned_tokens assigned ++ rest) ≡ true)
behind_name None rest go_on = (go_on, go_on)
behind_name (Some a) rest go_on =
    let r = behind_separator_blanks a.blanks (value_tokens a.value.pieces a.value.last) rest (behind_separator a.value.pieces a.value.last rest go_on) in (r, r)

behind_name_blanks : (blanks : List ℕ) (assigned rest : List Token) → (are_items BehindName (assigned ++ rest) ≡ true) × (are_items BehindNameBlanks (assigned ++ rest) ≡ true)
    → are_items BehindName ((filled WhitespaceToken blanks ++ assigned) ++ rest) ≡ true
behind_name_blanks [] assigned rest r = r.0
behind_name_blanks (x ∷ xs) assigned rest r = r.1

-- The tokens of parts can be read as items.
parts_items : (parts : List Part) → are_items Between (tokens_of parts) ≡ true
parts_items [] = refl
parts_items (HeaderPart h ∷ parts) = parts_items parts
parts_items (ItemPart (BlanksItem run) ∷ parts) = parts_items parts
parts_items (ItemPart (LineEndsItem run) ∷ parts) = parts_items parts
parts_items (ItemPart (CommentItem tag text) ∷ parts) = parts_items parts
parts_items (ItemPart (EntryItem e) ∷ parts) =
    behind_name_blanks e.blanks (assigned_tokens e.assigned) (tokens_of parts) (behind_name e.assigned (tokens_of parts) (parts_items parts))

-- what may follow blanks, or after a line ending, may be without them
no_name_blanks : (tokens : List Token) → are_items BehindNameBlanks tokens ≡ true → are_items BehindName tokens ≡ true
no_name_blanks (ValueToken bytes ∷ tokens) h = h
no_name_blanks (SeparatorToken ∷ tokens) h = h
no_name_blanks _ h = absurd (cc)

no_separator_blanks : (tokens : List Token) → are_items BehindSeparatorBlanks tokens ≡ true → are_items BehindSeparator tokens ≡ true
no_separator_blanks (ValueToken bytes ∷ tokens) h = h
no_separator_blanks (ValueNotDoneToken bytes ∷ tokens) h = h
no_separator_blanks _ h = absurd (cc)

no_line_end : (tokens : List Token) → are_items BehindPieceEnd tokens ≡ true → are_items BehindPiece tokens ≡ true
no_line_end (ValueNotDoneToken bytes ∷ tokens) h = h
no_line_end (ValueDoneToken bytes ∷ tokens) h = h
no_line_end _ h = absurd (cc)

-- a token that is there, or missing
there : (place : Place) (t : Token) (all tokens : List Token) → IsSelection true (t ∷ all) tokens
    → ((rest : List Token) → IsSelection true all rest → are_items place (t ∷ rest) ≡ true)
    → (may_miss true t ≡ true → IsSelection true all tokens → are_items place tokens ≡ true)
    → are_items place tokens ≡ true
there place t all tokens s kept missing = elim s [ inl k ↦ rw k.1 (kept k.0 k.2) | inr m ↦ missing m.0 m.1 ]

-- the bytes pass a test, and the rest can be read as items
and_rest : (a : Bool) (place : Place) (rest : List Token) → a ≡ true → are_items place rest ≡ true → (a && are_items place rest) ≡ true
and_rest true place rest is go_on = go_on
and_rest false place rest is go_on = is

-- Some of the tokens, with all that make entries, can be read as items.
some_items : (place : Place) (all tokens : List Token) → IsSelection true all tokens → are_items place all ≡ true → are_items place tokens ≡ true
some_items Between [] tokens s h = rw s refl
some_items Between (HeaderToken k ∷ all) tokens s h = there Between _ all tokens s (λ rest r. some_items Between all rest r h) (λ m. absurd (cc))
some_items Between (CommentToken tag text ∷ all) tokens s h = there Between _ all tokens s (λ rest r. some_items Between all rest r h) (λ m r. some_items Between all tokens r h)
some_items Between (NewlineToken run ∷ all) tokens s h = there Between _ all tokens s (λ rest r. some_items Between all rest r h) (λ m r. some_items Between all tokens r h)
some_items Between (WhitespaceToken run ∷ all) tokens s h = there Between _ all tokens s (λ rest r. some_items Between all rest r h) (λ m r. some_items Between all tokens r h)
some_items Between (NameToken name ∷ all) tokens s h = there Between _ all tokens s (λ rest r. some_items BehindName all rest r h) (λ m. absurd (cc))
some_items BehindName (WhitespaceToken run ∷ all) tokens s h =
    let b = both (is_filled run) (are_items BehindNameBlanks all) h in
    there BehindName _ all tokens s (λ rest r. and_rest (is_filled run) BehindNameBlanks rest b.0 (some_items BehindNameBlanks all rest r b.1))
    (λ m r. no_name_blanks tokens (some_items BehindNameBlanks all tokens r b.1))
some_items BehindName (ValueToken text ∷ all) tokens s h =
    let b = both (not (is_filled text)) (are_items Between all) h in
    there BehindName _ all tokens s (λ rest r. and_rest (not (is_filled text)) Between rest b.0 (some_items Between all rest r b.1)) (λ m. absurd (cc))
some_items BehindName (SeparatorToken ∷ all) tokens s h = there BehindName _ all tokens s (λ rest r. some_items BehindSeparator all rest r h) (λ m. absurd (cc))
some_items BehindNameBlanks (ValueToken text ∷ all) tokens s h =
    let b = both (not (is_filled text)) (are_items Between all) h in
    there BehindNameBlanks _ all tokens s (λ rest r. and_rest (not (is_filled text)) Between rest b.0 (some_items Between all rest r b.1)) (λ m. absurd (cc))
some_items BehindNameBlanks (SeparatorToken ∷ all) tokens s h = there BehindNameBlanks _ all tokens s (λ rest r. some_items BehindSeparator all rest r h) (λ m. absurd (cc))
some_items BehindSeparator (WhitespaceToken run ∷ all) tokens s h =
    let b = both (is_filled run) (are_items BehindSeparatorBlanks all) h in
    there BehindSeparator _ all tokens s (λ rest r. and_rest (is_filled run) BehindSeparatorBlanks rest b.0 (some_items BehindSeparatorBlanks all rest r b.1))
    (λ m r. no_separator_blanks tokens (some_items BehindSeparatorBlanks all tokens r b.1))
some_items BehindSeparator (ValueToken text ∷ all) tokens s h = there BehindSeparator _ all tokens s (λ rest r. some_items Between all rest r h) (λ m. absurd (cc))
some_items BehindSeparator (ValueNotDoneToken text ∷ all) tokens s h = there BehindSeparator _ all tokens s (λ rest r. some_items BehindPiece all rest r h) (λ m. absurd (cc))
some_items BehindSeparatorBlanks (ValueToken text ∷ all) tokens s h = there BehindSeparatorBlanks _ all tokens s (λ rest r. some_items Between all rest r h) (λ m. absurd (cc))
some_items BehindSeparatorBlanks (ValueNotDoneToken text ∷ all) tokens s h = there BehindSeparatorBlanks _ all tokens s (λ rest r. some_items BehindPiece all rest r h) (λ m. absurd (cc))
some_items BehindPiece (NewlineToken run ∷ all) tokens s h =
    let b = both (is_filled run) (are_items BehindPieceEnd all) h in
    there BehindPiece _ all tokens s (λ rest r. and_rest (is_filled run) BehindPieceEnd rest b.0 (some_items BehindPieceEnd all rest r b.1))
    (λ m r. no_line_end tokens (some_items BehindPieceEnd all tokens r b.1))
some_items BehindPiece (ValueNotDoneToken text ∷ all) tokens s h = there BehindPiece _ all tokens s (λ rest r. some_items BehindPiece all rest r h) (λ m. absurd (cc))
some_items BehindPiece (ValueDoneToken text ∷ all) tokens s h = there BehindPiece _ all tokens s (λ rest r. some_items Between all rest r h) (λ m. absurd (cc))
some_items BehindPieceEnd (ValueNotDoneToken text ∷ all) tokens s h = there BehindPieceEnd _ all tokens s (λ rest r. some_items BehindPiece all rest r h) (λ m. absurd (cc))
some_items BehindPieceEnd (ValueDoneToken text ∷ all) tokens s h = there BehindPieceEnd _ all tokens s (λ rest r. some_items Between all rest r h) (λ m. absurd (cc))
some_items _ _ tokens s h = absurd (cc)

-- What tokens are from each place on: the rest of an entry, and then parts.
Cut : Place → List Token → Type 0
Cut Between tokens = (parts : List Part) × (tokens ≡ tokens_of parts)
Cut BehindName tokens = (blanks : List ℕ) × (assigned : Option Assigned) × (parts : List Part) × (tokens ≡ filled WhitespaceToken blanks ++ (assigned_tokens assigned ++ tokens_of parts))
Cut BehindNameBlanks tokens = (assigned : Option Assigned) × (parts : List Part) × (tokens ≡ assigned_tokens assigned ++ tokens_of parts)
Cut BehindSeparator tokens = (blanks : List ℕ) × (pieces : List Piece) × (last : List ℕ) × (parts : List Part) × (tokens ≡ filled WhitespaceToken blanks ++ (value_tokens pieces last ++ tokens_of parts))
Cut BehindSeparatorBlanks tokens = (pieces : List Piece) × (last : List ℕ) × (parts : List Part) × (tokens ≡ value_tokens pieces last ++ tokens_of parts)
Cut BehindPiece tokens = (line_end : List ℕ) × (pieces : List Piece) × (last : List ℕ) × (parts : List Part)
    × (tokens ≡ filled NewlineToken line_end ++ ((flat_map piece_tokens pieces ++ ValueDoneToken last ∷ []) ++ tokens_of parts))
Cut BehindPieceEnd tokens = (pieces : List Piece) × (last : List ℕ) × (parts : List Part) × (tokens ≡ (flat_map piece_tokens pieces ++ ValueDoneToken last ∷ []) ++ tokens_of parts)

filled_is : (token : List ℕ → Token) (bytes : List ℕ) (rest all : List Token) → is_filled bytes ≡ true → all ≡ rest → token bytes ∷ all ≡ filled token bytes ++ rest
filled_is token [] rest all h same = absurd (cc)
filled_is token (b ∷ bytes) rest all h same = ap (λ ts. token (b ∷ bytes) ∷ ts) same

empty_is : (bytes : List ℕ) → not (is_filled bytes) ≡ true → bytes ≡ []
empty_is [] h = refl
empty_is (b ∷ bytes) h = absurd (cc)

-- a value that is empty stands for none
nothing_assigned : (bytes : List ℕ) (rest all : List Token) → not (is_filled bytes) ≡ true → all ≡ rest → ValueToken bytes ∷ all ≡ assigned_tokens None ++ rest
nothing_assigned bytes rest all h same = rw (empty_is bytes h) (ap (λ ts. ValueToken [] ∷ ts) same)

-- a separator, blanks and a value are what is assigned
something_assigned : (blanks : List ℕ) (pieces : List Piece) (last : List ℕ) (rest all : List Token) → all ≡ filled WhitespaceToken blanks ++ (value_tokens pieces last ++ rest)
    → SeparatorToken ∷ all ≡ assigned_tokens (Some (record { blanks = blanks; value = record { pieces = pieces; last = last } })) ++ rest
something_assigned blanks pieces last rest all same =
    ap (λ ts. SeparatorToken ∷ ts) (same ∙ sym (append_assoc (filled WhitespaceToken blanks) (value_tokens pieces last) rest))

-- a piece and its line ending come before other pieces
piece_first : (text line_end : List ℕ) (pieces : List Piece) (last : List ℕ) (rest all : List Token)
    → all ≡ filled NewlineToken line_end ++ ((flat_map piece_tokens pieces ++ ValueDoneToken last ∷ []) ++ rest)
    → ValueNotDoneToken text ∷ all ≡ (flat_map piece_tokens ((record { text = text; line_end = line_end }) ∷ pieces) ++ ValueDoneToken last ∷ []) ++ rest
piece_first text line_end pieces last rest all same =
    ap (λ ts. ValueNotDoneToken text ∷ ts) (
    same
    ∙ sym (append_assoc (filled NewlineToken line_end) (flat_map piece_tokens pieces ++ ValueDoneToken last ∷ []) rest)
    ∙ ap (λ ts. ts ++ rest) (sym (append_assoc (filled NewlineToken line_end) (flat_map piece_tokens pieces) (ValueDoneToken last ∷ []))))

cut_at : (place : Place) (tokens : List Token) → are_items place tokens ≡ true → Cut place tokens
unfolding Cut
cut_at Between [] h = ([], refl)
cut_at Between (HeaderToken k ∷ tokens) h = let r = cut_at Between tokens h in (HeaderPart k ∷ r.0, ap (λ ts. HeaderToken k ∷ ts) r.1)
cut_at Between (CommentToken tag text ∷ tokens) h = let r = cut_at Between tokens h in (ItemPart (CommentItem tag text) ∷ r.0, ap (λ ts. CommentToken tag text ∷ ts) r.1)
cut_at Between (NewlineToken run ∷ tokens) h = let r = cut_at Between tokens h in (ItemPart (LineEndsItem run) ∷ r.0, ap (λ ts. NewlineToken run ∷ ts) r.1)
cut_at Between (WhitespaceToken run ∷ tokens) h = let r = cut_at Between tokens h in (ItemPart (BlanksItem run) ∷ r.0, ap (λ ts. WhitespaceToken run ∷ ts) r.1)
cut_at Between (NameToken name ∷ tokens) h =
    let r = cut_at BehindName tokens h in (
      ItemPart (EntryItem (record { name = name; blanks = r.0; assigned = r.1 })) ∷ r.2,
      ap (λ ts. NameToken name ∷ ts) (r.3 ∙ sym (append_assoc (filled WhitespaceToken r.0) (assigned_tokens r.1) (tokens_of r.2))),
    )
cut_at BehindName (WhitespaceToken run ∷ tokens) h =
    let b = both (is_filled run) (are_items BehindNameBlanks tokens) h in
    let r = cut_at BehindNameBlanks tokens b.1 in
    (run, r.0, r.1, filled_is WhitespaceToken run _ tokens b.0 r.2)
cut_at BehindName (ValueToken text ∷ tokens) h =
    let b = both (not (is_filled text)) (are_items Between tokens) h in
    let r = cut_at Between tokens b.1 in
    ([], None, r.0, nothing_assigned text (tokens_of r.0) tokens b.0 r.1)
cut_at BehindName (SeparatorToken ∷ tokens) h =
    let r = cut_at BehindSeparator tokens h in
    ([], Some (record { blanks = r.0; value = record { pieces = r.1; last = r.2 } }), r.3, something_assigned r.0 r.1 r.2 (tokens_of r.3) tokens r.4)
cut_at BehindNameBlanks (ValueToken text ∷ tokens) h =
    let b = both (not (is_filled text)) (are_items Between tokens) h in
    let r = cut_at Between tokens b.1 in
    (None, r.0, nothing_assigned text (tokens_of r.0) tokens b.0 r.1)
cut_at BehindNameBlanks (SeparatorToken ∷ tokens) h =
    let r = cut_at BehindSeparator tokens h in
    (Some (record { blanks = r.0; value = record { pieces = r.1; last = r.2 } }), r.3, something_assigned r.0 r.1 r.2 (tokens_of r.3) tokens r.4)
cut_at BehindSeparator (WhitespaceToken run ∷ tokens) h =
    let b = both (is_filled run) (are_items BehindSeparatorBlanks tokens) h in
    let r = cut_at BehindSeparatorBlanks tokens b.1 in
    (run, r.0, r.1, r.2, filled_is WhitespaceToken run _ tokens b.0 r.3)
cut_at BehindSeparator (ValueToken text ∷ tokens) h = let r = cut_at Between tokens h in ([], [], text, r.0, ap (λ ts. ValueToken text ∷ ts) r.1)
cut_at BehindSeparator (ValueNotDoneToken text ∷ tokens) h =
    let r = cut_at BehindPiece tokens h in
    ([], (record { text = text; line_end = r.0 }) ∷ r.1, r.2, r.3, piece_first text r.0 r.1 r.2 (tokens_of r.3) tokens r.4)
cut_at BehindSeparatorBlanks (ValueToken text ∷ tokens) h = let r = cut_at Between tokens h in ([], text, r.0, ap (λ ts. ValueToken text ∷ ts) r.1)
cut_at BehindSeparatorBlanks (ValueNotDoneToken text ∷ tokens) h =
    let r = cut_at BehindPiece tokens h in
    ((record { text = text; line_end = r.0 }) ∷ r.1, r.2, r.3, piece_first text r.0 r.1 r.2 (tokens_of r.3) tokens r.4)
cut_at BehindPiece (NewlineToken run ∷ tokens) h =
    let b = both (is_filled run) (are_items BehindPieceEnd tokens) h in
    let r = cut_at BehindPieceEnd tokens b.1 in
    (run, r.0, r.1, r.2, filled_is NewlineToken run _ tokens b.0 r.3)
cut_at BehindPiece (ValueNotDoneToken text ∷ tokens) h =
    let r = cut_at BehindPiece tokens h in
    ([], (record { text = text; line_end = r.0 }) ∷ r.1, r.2, r.3, piece_first text r.0 r.1 r.2 (tokens_of r.3) tokens r.4)
cut_at BehindPiece (ValueDoneToken text ∷ tokens) h = let r = cut_at Between tokens h in ([], [], text, r.0, ap (λ ts. ValueDoneToken text ∷ ts) r.1)
cut_at BehindPieceEnd (ValueNotDoneToken text ∷ tokens) h =
    let r = cut_at BehindPiece tokens h in
    ((record { text = text; line_end = r.0 }) ∷ r.1, r.2, r.3, piece_first text r.0 r.1 r.2 (tokens_of r.3) tokens r.4)
cut_at BehindPieceEnd (ValueDoneToken text ∷ tokens) h = let r = cut_at Between tokens h in ([], text, r.0, ap (λ ts. ValueDoneToken text ∷ ts) r.1)
cut_at _ _ h = absurd (cc)

-- Tokens that go on as items are those of parts.
pub items_parts : (tokens : List Token) → are_items Between tokens ≡ true → (parts : List Part) × (tokens ≡ tokens_of parts)
unfolding Cut
items_parts tokens h = cut_at Between tokens h

-- And those of parts go on as items.
pub tokens_items : (tokens : List Token) → (parts : List Part) × (tokens ≡ tokens_of parts) → are_items Between tokens ≡ true
tokens_items tokens are = rw are.1 (parts_items are.0)

pub selection_parts : (parts : List Part) (tokens : List Token) → IsSelection true (tokens_of parts) tokens → (others : List Part) × (tokens ≡ tokens_of others)
selection_parts parts tokens some = items_parts tokens (some_items Between (tokens_of parts) tokens some (parts_items parts))

-- What was kept of a text can be read as items, where all that makes entries was.
pub selected_items : (text : List ℕ) (list : EventList) → IsSelected text list → list.keeps_entries ≡ true → (parts : List Part) × (list.tokens ≡ tokens_of parts)
selected_items text list s whole = selection_parts s.parts list.tokens (rw whole at s.tokens)

pub whole_items : (text : List ℕ) (list : EventList) → IsWhole text list → (parts : List Part) × (list.tokens ≡ tokens_of parts)
whole_items text list w = (w.parts, w.tokens)

pub parsed_items : (p : Shown → Bool) (text : List ℕ) (list : EventList) → IsParsed p text list → list.keeps_entries ≡ true → (parts : List Part) × (list.tokens ≡ tokens_of parts)
parsed_items p text list is whole = selected_items text list (parsed_selected p text list is) whole
