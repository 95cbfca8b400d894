-- Tokens: the events of a text, each with its bytes.
use Rattle.std.specs.Prelude.{ℕ, List, [], ◌∷◌, ◌++◌, flat_map, Option, Some, None}
use Rattle.gitconf_text.specs.Value.{Piece}
use Rattle.gitconf_text.specs.Header.{Header, spelled_header}
use Rattle.gitconf_text.specs.Part.{Assigned, Item, BlanksItem, LineEndsItem, CommentItem, EntryItem, Part, ItemPart, HeaderPart}

-- a header keeps its form and spelling; an unfinished piece has no backslash here
pub data Token : Type 0 where
  CommentToken : (tag : ℕ) (text : List ℕ) → Token
  HeaderToken : Header → Token
  NameToken : List ℕ → Token
  ValueToken : List ℕ → Token
  NewlineToken : List ℕ → Token
  ValueNotDoneToken : List ℕ → Token
  ValueDoneToken : List ℕ → Token
  WhitespaceToken : List ℕ → Token
  SeparatorToken : Token

-- the bytes that a token stands for in its text
abbrev pub spelled_token : Token → List ℕ
spelled_token (CommentToken tag text) = tag ∷ text
spelled_token (HeaderToken h) = spelled_header h
spelled_token (NameToken bytes) = bytes
spelled_token (ValueToken bytes) = bytes
spelled_token (NewlineToken bytes) = bytes
spelled_token (ValueNotDoneToken bytes) = bytes ++ 92 ∷ []
spelled_token (ValueDoneToken bytes) = bytes
spelled_token (WhitespaceToken bytes) = bytes
spelled_token SeparatorToken = 61 ∷ []

-- a token of these bytes; none if there are no bytes
abbrev pub filled : (List ℕ → Token) → List ℕ → List Token
filled token [] = []
filled token (b ∷ rest) = token (b ∷ rest) ∷ []

-- a piece of a value other than the last one, and its line ending, if it has one
abbrev pub piece_tokens : Piece → List Token
piece_tokens p = ValueNotDoneToken p.text ∷ filled NewlineToken p.line_end

-- one token for a value of one piece; otherwise each piece and its line ending, and the last piece
abbrev pub value_tokens : List Piece → (last : List ℕ) → List Token
value_tokens [] last = ValueToken last ∷ []
value_tokens (p ∷ pieces) last = flat_map piece_tokens (p ∷ pieces) ++ ValueDoneToken last ∷ []

-- an entry without `=` has an empty value token
abbrev pub assigned_tokens : Option Assigned → List Token
assigned_tokens None = ValueToken [] ∷ []
assigned_tokens (Some a) = SeparatorToken ∷ (filled WhitespaceToken a.blanks ++ value_tokens a.value.pieces a.value.last)

-- the tokens of an item, in order; an entry's empty blanks have none
abbrev pub item_tokens : Item → List Token
item_tokens (BlanksItem run) = WhitespaceToken run ∷ []
item_tokens (LineEndsItem run) = NewlineToken run ∷ []
item_tokens (CommentItem tag text) = CommentToken tag text ∷ []
item_tokens (EntryItem e) = NameToken e.name ∷ (filled WhitespaceToken e.blanks ++ assigned_tokens e.assigned)

-- the tokens of a part, in order
abbrev pub part_tokens : Part → List Token
part_tokens (ItemPart i) = item_tokens i
part_tokens (HeaderPart h) = HeaderToken h ∷ []

-- the tokens of a text of these parts, in order
abbrev pub tokens_of : List Part → List Token
tokens_of parts = flat_map part_tokens parts
