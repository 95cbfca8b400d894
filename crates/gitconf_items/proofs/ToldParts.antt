-- The tokens of parts say their document.
use Rattle.std.proofs.Common.{◌≡◌, ℕ, false, List, [], ◌∷◌, ◌++◌, Option, Some, None, refl, ap, sym, ◌∙◌, append_assoc}
use Rattle.std.specs.List.{flat_map}
use Rattle.std.specs.Option.{option_map}
use Rattle.gitconf_text.specs.Value.{Piece, raw_of}
use Rattle.gitconf_text.specs.Part.{Assigned, BlanksItem, LineEndsItem, CommentItem, EntryItem, Part, ItemPart, HeaderPart}
use Rattle.gitconf_text.specs.Token.{Token, NameToken, NewlineToken, ValueNotDoneToken, ValueDoneToken, WhitespaceToken, SeparatorToken, filled, piece_tokens, value_tokens, assigned_tokens, part_tokens, tokens_of}
use Rattle.gitconf_text.specs.Document.{with_part, gathered}
use Rattle.gitconf_items.proofs.TokenDocument.{Told, nothing, before, told}

told-append : (xs ys : List Token) (r : Told) → told (xs ++ ys) r ≡ told xs (told ys r)
told-append [] ys r = refl
told-append (x ∷ xs) ys r = ap (before x) (told-append xs ys r)

told_blanks : (blanks : List ℕ) (r : Told) → told (filled WhitespaceToken blanks) r ≡ r
told_blanks [] r = refl
told_blanks (b ∷ blanks) r = refl

told_line_end : (bytes : List ℕ) (r : Told) → told (filled NewlineToken bytes) r ≡ r
told_line_end [] r = refl
told_line_end (b ∷ bytes) r = refl

-- pieces and the last one give the raw text
told_pieces : (pieces : List Piece) (last : List ℕ) (r : Told)
    → told (flat_map piece_tokens pieces ++ ValueDoneToken last ∷ []) r ≡ record { document = r.document; assigned = false; raw = flat_map (λ (p : Piece). p.text) pieces ++ last }
told_pieces [] last r = refl
told_pieces (p ∷ pieces) last r =
    ap (λ t. told t r) (append_assoc (piece_tokens p) (flat_map piece_tokens pieces) (ValueDoneToken last ∷ []))
    ∙ told-append (piece_tokens p) (flat_map piece_tokens pieces ++ ValueDoneToken last ∷ []) r
    ∙ ap (λ s. told (piece_tokens p) s) (told_pieces pieces last r)
    ∙ ap (λ s. before (ValueNotDoneToken p.text) s) (told_line_end p.line_end _)
    ∙ ap (λ (t : List ℕ). record { document = r.document; assigned = false; raw = t }) (sym (append_assoc p.text (flat_map (λ (p : Piece). p.text) pieces) last))

told_value : (pieces : List Piece) (last : List ℕ) (r : Told)
    → told (value_tokens pieces last) r ≡ record { document = r.document; assigned = false; raw = flat_map (λ (p : Piece). p.text) pieces ++ last }
told_value [] last r = refl
told_value (p ∷ pieces) last r = told_pieces (p ∷ pieces) last r

told_assigned : (name : List ℕ) (a : Option Assigned) (r : Told)
    → (before (NameToken name) (told (assigned_tokens a) r)).document
    ≡ record { front = (record { name = name; raw = option_map (λ (a : Assigned). raw_of a.value) a }) ∷ r.document.front; sections = r.document.sections }
told_assigned name None r = refl
told_assigned name (Some a) r =
    ap (λ s. (before (NameToken name) (before SeparatorToken s)).document)
    (told-append (filled WhitespaceToken a.blanks) (value_tokens a.value.pieces a.value.last) r ∙ told_blanks a.blanks _ ∙ told_value a.value.pieces a.value.last r)

told_part : (p : Part) (r : Told) → (told (part_tokens p) r).document ≡ with_part p r.document
told_part (ItemPart (BlanksItem run)) r = refl
told_part (ItemPart (LineEndsItem run)) r = refl
told_part (ItemPart (CommentItem tag text)) r = refl
told_part (ItemPart (EntryItem e)) r =
    ap (λ s. (before (NameToken e.name) s).document) (told-append (filled WhitespaceToken e.blanks) (assigned_tokens e.assigned) r ∙ told_blanks e.blanks _)
    ∙ told_assigned e.name e.assigned r
told_part (HeaderPart h) r = refl

-- the tokens of parts give their document
pub told_parts : (parts : List Part) → (told (tokens_of parts) nothing).document ≡ gathered parts
told_parts [] = refl
told_parts (p ∷ parts) =
    ap (λ (s : Told). s.document) (told-append (part_tokens p) (tokens_of parts) nothing) ∙ told_part p (told (tokens_of parts) nothing) ∙ ap (with_part p) (told_parts parts)
