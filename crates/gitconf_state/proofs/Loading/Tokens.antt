-- The parts that tokens make: read from the last token on, they are found again, so two lists of parts differ in their tokens.
use Rattle.std.proofs.Common.{◌≡◌, ℕ, List, [], ◌∷◌, ◌++◌, flat_map, Option, Some, None, append_assoc, refl, ap, sym, ◌∙◌}
use Rattle.std.proofs.lemmas.Grind.{flat_map-append}
use Rattle.std.specs.Prelude.{map}
use Rattle.gitconf_text.specs.Value.{Piece, Value}
use Rattle.gitconf_text.specs.Part.{Assigned, Item, BlanksItem, LineEndsItem, CommentItem, EntryItem, Part, ItemPart, HeaderPart}
use Rattle.gitconf_text.specs.Token.{Token, CommentToken, HeaderToken, NameToken, ValueToken, NewlineToken, ValueNotDoneToken, ValueDoneToken, WhitespaceToken, SeparatorToken, filled, piece_tokens, value_tokens, assigned_tokens, item_tokens, part_tokens, tokens_of}
use Rattle.gitconf_state.specs.State.{SectionState, State}
use Rattle.gitconf_state.specs.Loads.{section_tokens, state_tokens}

-- what the tokens from here on make: parts; or, before them, a value, with the blanks before it; a value before which a line ending is;
-- a separator and what is assigned, with the blanks before it
pub data Made : Type 0 where
  MadeParts : List Part → Made
  MadeValue : (blanks : List ℕ) → Value → List Part → Made
  MadeLineEnd : (line_end : List ℕ) → Value → List Part → Made
  MadeAssigned : (blanks : List ℕ) → Assigned → List Part → Made

-- a piece before a value
abbrev with_piece : (text line_end : List ℕ) → Value → Value
with_piece text line_end v = record { pieces = (record { text = text; line_end = line_end }) ∷ v.pieces; last = v.last }

-- a token before what others make
abbrev put : Token → Made → Made
put (CommentToken tag text) (MadeParts parts) = MadeParts (ItemPart (CommentItem tag text) ∷ parts)
put (HeaderToken h) (MadeParts parts) = MadeParts (HeaderPart h ∷ parts)
put (NewlineToken run) (MadeParts parts) = MadeParts (ItemPart (LineEndsItem run) ∷ parts)
put (NewlineToken run) (MadeValue blanks v parts) = MadeLineEnd run v parts
put (WhitespaceToken run) (MadeParts parts) = MadeParts (ItemPart (BlanksItem run) ∷ parts)
put (WhitespaceToken run) (MadeValue blanks v parts) = MadeValue run v parts
put (WhitespaceToken run) (MadeAssigned blanks a parts) = MadeAssigned run a parts
put (ValueToken last) (MadeParts parts) = MadeValue [] (record { pieces = []; last = last }) parts
put (ValueDoneToken last) (MadeParts parts) = MadeValue [] (record { pieces = []; last = last }) parts
put (ValueNotDoneToken text) (MadeValue blanks v parts) = MadeValue [] (with_piece text [] v) parts
put (ValueNotDoneToken text) (MadeLineEnd line_end v parts) = MadeValue [] (with_piece text line_end v) parts
put SeparatorToken (MadeValue blanks v parts) = MadeAssigned [] (record { blanks = blanks; value = v }) parts
put (NameToken name) (MadeValue blanks v parts) = MadeParts (ItemPart (EntryItem (record { name = name; blanks = blanks; assigned = None })) ∷ parts)
put (NameToken name) (MadeAssigned blanks a parts) = MadeParts (ItemPart (EntryItem (record { name = name; blanks = blanks; assigned = Some a })) ∷ parts)
put t m = MadeParts []

-- all tokens before what others make
abbrev made : List Token → Made → Made
made [] m = m
made (t ∷ tokens) m = put t (made tokens m)

-- tokens put together make what the first ones make before the others
made-append : (xs ys : List Token) (m : Made) → made (xs ++ ys) m ≡ made xs (made ys m)
made-append [] ys m = refl
made-append (x ∷ xs) ys m = ap (put x) (made-append xs ys m)

-- a piece with its line ending, before a value
made_piece : (p : Piece) (v : Value) (parts : List Part) → made (piece_tokens p) (MadeValue [] v parts) ≡ MadeValue [] (record { pieces = p ∷ v.pieces; last = v.last }) parts
made_piece p v parts = go p.text p.line_end
  where
    go : (text line_end : List ℕ) → made (ValueNotDoneToken text ∷ filled NewlineToken line_end) (MadeValue [] v parts) ≡ MadeValue [] (with_piece text line_end v) parts
    go text [] = refl
    go text (b ∷ bytes) = refl

-- pieces with their line endings, and the last one
made_pieces : (pieces : List Piece) (last : List ℕ) (parts : List Part)
    → made (flat_map piece_tokens pieces ++ ValueDoneToken last ∷ []) (MadeParts parts) ≡ MadeValue [] (record { pieces = pieces; last = last }) parts
made_pieces [] last parts = refl
made_pieces (p ∷ pieces) last parts =
    ap (λ t. made t (MadeParts parts)) (append_assoc (piece_tokens p) (flat_map piece_tokens pieces) (ValueDoneToken last ∷ []))
    ∙ made-append (piece_tokens p) (flat_map piece_tokens pieces ++ ValueDoneToken last ∷ []) (MadeParts parts)
    ∙ ap (made (piece_tokens p)) (made_pieces pieces last parts)
    ∙ made_piece p (record { pieces = pieces; last = last }) parts

-- a value
made_value : (pieces : List Piece) (last : List ℕ) (parts : List Part) → made (value_tokens pieces last) (MadeParts parts) ≡ MadeValue [] (record { pieces = pieces; last = last }) parts
made_value [] last parts = refl
made_value (p ∷ pieces) last parts = made_pieces (p ∷ pieces) last parts

-- blanks before a value
made_value_blanks : (blanks : List ℕ) (v : Value) (parts : List Part) → made (filled WhitespaceToken blanks) (MadeValue [] v parts) ≡ MadeValue blanks v parts
made_value_blanks [] v parts = refl
made_value_blanks (b ∷ blanks) v parts = refl

-- blanks before a separator
made_assigned_blanks : (blanks : List ℕ) (a : Assigned) (parts : List Part) → made (filled WhitespaceToken blanks) (MadeAssigned [] a parts) ≡ MadeAssigned blanks a parts
made_assigned_blanks [] a parts = refl
made_assigned_blanks (b ∷ blanks) a parts = refl

-- an entry before parts
made_entry : (name blanks : List ℕ) (assigned : Option Assigned) (parts : List Part)
    → made (NameToken name ∷ (filled WhitespaceToken blanks ++ assigned_tokens assigned)) (MadeParts parts)
    ≡ MadeParts (ItemPart (EntryItem (record { name = name; blanks = blanks; assigned = assigned })) ∷ parts)
made_entry name blanks None parts = ap (put (NameToken name)) (
    made-append (filled WhitespaceToken blanks) (ValueToken [] ∷ []) (MadeParts parts) ∙ made_value_blanks blanks (record { pieces = []; last = [] }) parts)
made_entry name blanks (Some a) parts = ap (put (NameToken name)) (
    made-append (filled WhitespaceToken blanks) (assigned_tokens (Some a)) (MadeParts parts)
    ∙ ap (λ m. made (filled WhitespaceToken blanks) (put SeparatorToken m)) (
    made-append (filled WhitespaceToken a.blanks) (value_tokens a.value.pieces a.value.last) (MadeParts parts)
    ∙ ap (made (filled WhitespaceToken a.blanks)) (made_value a.value.pieces a.value.last parts)
    ∙ made_value_blanks a.blanks a.value parts)
    ∙ made_assigned_blanks blanks a parts)

-- a part before parts
made_part : (p : Part) (parts : List Part) → made (part_tokens p) (MadeParts parts) ≡ MadeParts (p ∷ parts)
made_part (ItemPart (BlanksItem run)) parts = refl
made_part (ItemPart (LineEndsItem run)) parts = refl
made_part (ItemPart (CommentItem tag text)) parts = refl
made_part (ItemPart (EntryItem e)) parts = made_entry e.name e.blanks e.assigned parts
made_part (HeaderPart h) parts = refl

-- The tokens of parts make these parts.
made_parts : (parts : List Part) → made (tokens_of parts) (MadeParts []) ≡ MadeParts parts
made_parts [] = refl
made_parts (p ∷ parts) =
    made-append (part_tokens p) (tokens_of parts) (MadeParts []) ∙ ap (made (part_tokens p)) (made_parts parts) ∙ made_part p parts

-- Parts that have the same tokens are the same.
pub same_parts : (parts others : List Part) → tokens_of parts ≡ tokens_of others → parts ≡ others
same_parts parts others same =
    let e : MadeParts parts ≡ MadeParts others = sym (made_parts parts) ∙ ap (λ t. made t (MadeParts [])) same ∙ made_parts others in cc

-- the parts of a section, but for those that are held
abbrev pub own_section_parts : SectionState → List Part
own_section_parts s = HeaderPart s.header ∷ map ItemPart s.items

-- the parts of a state, but for those that are held
abbrev pub own_parts : State → List Part
own_parts state = map ItemPart state.front ++ flat_map own_section_parts state.sections

-- items as parts have their tokens
pub items_have_tokens : (items : List Item) → tokens_of (map ItemPart items) ≡ flat_map item_tokens items
items_have_tokens [] = refl
items_have_tokens (i ∷ items) = ap (λ t. item_tokens i ++ t) (items_have_tokens items)

-- so have sections
pub sections_have_tokens : (sections : List SectionState) → tokens_of (flat_map own_section_parts sections) ≡ flat_map section_tokens sections
sections_have_tokens [] = refl
sections_have_tokens (s ∷ sections) =
    flat_map-append part_tokens (own_section_parts s) (flat_map own_section_parts sections)
    ∙ ap (λ t. (HeaderToken s.header ∷ t) ++ tokens_of (flat_map own_section_parts sections)) (items_have_tokens s.items)
    ∙ ap (λ t. section_tokens s ++ t) (sections_have_tokens sections)

-- A state's tokens are those of its parts.
pub own_tokens : (state : State) → tokens_of (own_parts state) ≡ state_tokens state
own_tokens state =
    flat_map-append part_tokens (map ItemPart state.front) (flat_map own_section_parts state.sections)
    ∙ ap (λ t. t ++ tokens_of (flat_map own_section_parts state.sections)) (items_have_tokens state.front)
    ∙ ap (λ t. flat_map item_tokens state.front ++ t) (sections_have_tokens state.sections)
