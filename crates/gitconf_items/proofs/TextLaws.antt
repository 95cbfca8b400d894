-- Laws of tokens: joined they give the text, and a lossy load keeps the document.
use Rattle.std.proofs.Common.{◌≡◌, ℕ, true, List, [], ◌∷◌, ◌++◌, Option, Some, None, refl, ap, sym, ◌∙◌, append_assoc, inl, inr, append-nil}
use Rattle.std.specs.List.{flat_map, list_all}
use Rattle.std.proofs.lemmas.Grind.{flat_map-append}
use Rattle.gitconf_text.specs.Value.{Piece}
use Rattle.gitconf_text.specs.Part.{Assigned, BlanksItem, LineEndsItem, CommentItem, EntryItem, Part, ItemPart, HeaderPart, spelled_assigned, spelled_part, spelled}
use Rattle.gitconf_text.specs.Token.{Token, CommentToken, HeaderToken, NameToken, ValueToken, NewlineToken, ValueNotDoneToken, ValueDoneToken, WhitespaceToken, SeparatorToken, spelled_token, filled, piece_tokens, value_tokens, assigned_tokens, part_tokens, tokens_of}
use Rattle.gitconf_items.specs.EventList.{keeps_entry_token, may_miss, IsSelection}
use Rattle.gitconf_items.specs.TokenDocument.{keeps_meaning}
use Rattle.gitconf_items.proofs.TokenDocument.{nothing, before, told}

-- a token that is only if there are bytes
joined_blanks : (bytes : List ℕ) → flat_map spelled_token (filled WhitespaceToken bytes) ≡ bytes
joined_blanks [] = refl
joined_blanks (b ∷ bytes) = append-nil (b ∷ bytes)

joined_line_end : (bytes : List ℕ) → flat_map spelled_token (filled NewlineToken bytes) ≡ bytes
joined_line_end [] = refl
joined_line_end (b ∷ bytes) = append-nil (b ∷ bytes)

joined_pieces : (pieces : List Piece) (last : List ℕ)
    → flat_map spelled_token (flat_map piece_tokens pieces ++ ValueDoneToken last ∷ []) ≡ flat_map (λ (p : Piece). p.text ++ 92 ∷ p.line_end) pieces ++ last
joined_pieces [] last = append-nil last
joined_pieces (p ∷ pieces) last =
    ap (flat_map spelled_token) (append_assoc (piece_tokens p) (flat_map piece_tokens pieces) (ValueDoneToken last ∷ []))
    ∙ flat_map-append spelled_token (piece_tokens p) (flat_map piece_tokens pieces ++ ValueDoneToken last ∷ [])
    ∙ ap (λ t. ((p.text ++ 92 ∷ []) ++ t) ++ flat_map spelled_token (flat_map piece_tokens pieces ++ ValueDoneToken last ∷ [])) (joined_line_end p.line_end)
    ∙ ap (λ t. ((p.text ++ 92 ∷ []) ++ p.line_end) ++ t) (joined_pieces pieces last)
    ∙ simp append_assoc

joined_value : (pieces : List Piece) (last : List ℕ) → flat_map spelled_token (value_tokens pieces last) ≡ flat_map (λ (p : Piece). p.text ++ 92 ∷ p.line_end) pieces ++ last
joined_value [] last = append-nil last
joined_value (p ∷ pieces) last = joined_pieces (p ∷ pieces) last

joined_assigned : (a : Option Assigned) → flat_map spelled_token (assigned_tokens a) ≡ spelled_assigned a
joined_assigned None = refl
joined_assigned (Some a) = ap (λ t. 61 ∷ t) (
    flat_map-append spelled_token (filled WhitespaceToken a.blanks) (value_tokens a.value.pieces a.value.last)
    ∙ ap (λ t. t ++ flat_map spelled_token (value_tokens a.value.pieces a.value.last)) (joined_blanks a.blanks)
    ∙ ap (λ t. a.blanks ++ t) (joined_value a.value.pieces a.value.last))

joined_part : (p : Part) → flat_map spelled_token (part_tokens p) ≡ spelled_part p
joined_part (ItemPart (BlanksItem run)) = append-nil run
joined_part (ItemPart (LineEndsItem run)) = append-nil run
joined_part (ItemPart (CommentItem tag text)) = append-nil (tag ∷ text)
joined_part (ItemPart (EntryItem e)) = ap (λ t. e.name ++ t) (
    flat_map-append spelled_token (filled WhitespaceToken e.blanks) (assigned_tokens e.assigned)
    ∙ ap (λ t. t ++ flat_map spelled_token (assigned_tokens e.assigned)) (joined_blanks e.blanks)
    ∙ ap (λ t. e.blanks ++ t) (joined_assigned e.assigned))
joined_part (HeaderPart h) = append-nil _

-- The tokens of a text, joined, are the text.
pub joined_parts : (parts : List Part) → flat_map spelled_token (tokens_of parts) ≡ spelled parts
joined_parts [] = refl
joined_parts (p ∷ parts) =
    flat_map-append spelled_token (part_tokens p) (tokens_of parts)
    ∙ ap (λ t. t ++ flat_map spelled_token (tokens_of parts)) (joined_part p)
    ∙ ap (λ t. spelled_part p ++ t) (joined_parts parts)

-- a token before others, or one that is missing and says nothing
token_told : (t : Token) (all tokens : List Token) → IsSelection true (t ∷ all) tokens
    → ((rest : List Token) → IsSelection true all rest → told rest nothing ≡ told all nothing) → (may_miss true t ≡ true → before t (told all nothing) ≡ told all nothing)
    → told tokens nothing ≡ before t (told all nothing)
token_told t all tokens s later silent = elim s [ inl k ↦ rw k.1 (ap (before t) (later k.0 k.2)) | inr m ↦ later tokens m.1 ∙ sym (silent m.0) ]

-- Some of the tokens, with all that make entries, have the document of all.
pub selected_document : (all tokens : List Token) → IsSelection true all tokens → told tokens nothing ≡ told all nothing
selected_document [] tokens s = rw s refl
selected_document (CommentToken tag text ∷ all) tokens s = token_told _ all tokens s (selected_document all) (λ m. refl)
selected_document (NewlineToken run ∷ all) tokens s = token_told _ all tokens s (selected_document all) (λ m. refl)
selected_document (WhitespaceToken run ∷ all) tokens s = token_told _ all tokens s (selected_document all) (λ m. refl)
selected_document (HeaderToken h ∷ all) tokens s = token_told _ all tokens s (selected_document all) (λ m. absurd (cc))
selected_document (NameToken name ∷ all) tokens s = token_told _ all tokens s (selected_document all) (λ m. absurd (cc))
selected_document (ValueToken text ∷ all) tokens s = token_told _ all tokens s (selected_document all) (λ m. absurd (cc))
selected_document (ValueNotDoneToken text ∷ all) tokens s = token_told _ all tokens s (selected_document all) (λ m. absurd (cc))
selected_document (ValueDoneToken text ∷ all) tokens s = token_told _ all tokens s (selected_document all) (λ m. absurd (cc))
selected_document (SeparatorToken ∷ all) tokens s = token_told _ all tokens s (selected_document all) (λ m. absurd (cc))

-- a lossy load keeps each name, separator and value
pub lossy_keeps_entries : (tokens : List Token) → list_all (keeps_entry_token keeps_meaning) tokens ≡ true
lossy_keeps_entries [] = refl
lossy_keeps_entries (CommentToken tag text ∷ tokens) = lossy_keeps_entries tokens
lossy_keeps_entries (HeaderToken h ∷ tokens) = lossy_keeps_entries tokens
lossy_keeps_entries (NameToken bytes ∷ tokens) = lossy_keeps_entries tokens
lossy_keeps_entries (ValueToken bytes ∷ tokens) = lossy_keeps_entries tokens
lossy_keeps_entries (NewlineToken bytes ∷ tokens) = lossy_keeps_entries tokens
lossy_keeps_entries (ValueNotDoneToken bytes ∷ tokens) = lossy_keeps_entries tokens
lossy_keeps_entries (ValueDoneToken bytes ∷ tokens) = lossy_keeps_entries tokens
lossy_keeps_entries (WhitespaceToken bytes ∷ tokens) = lossy_keeps_entries tokens
lossy_keeps_entries (SeparatorToken ∷ tokens) = lossy_keeps_entries tokens
