-- How tokens are put together to items, one by one, which only proofs and private functions see: tokens continue as items if and only if
-- they are the tokens of some parts.
use Rattle.std.specs.Prelude.{◌≡◌, ℕ, Bool, true, false, not, ◌&&◌, List, [], ◌∷◌, ◌++◌}
use Rattle.gitconf_text.specs.Text.{begins}
use Rattle.gitconf_text.specs.Token.{Token, CommentToken, HeaderToken, NameToken, ValueToken, NewlineToken, ValueNotDoneToken, ValueDoneToken, WhitespaceToken, SeparatorToken}

-- where in an item a token may be
pub data Place : Type 0 where
  Between : Place
  BehindName : Place
  BehindNameBlanks : Place
  BehindSeparator : Place
  BehindSeparatorBlanks : Place
  BehindPiece : Place
  BehindPieceEnd : Place

-- there are bytes
abbrev pub is_filled : List ℕ → Bool
is_filled bytes = begins (λ _. true) bytes

-- From this place on, the tokens are those of items: between entries come headers, blanks, line endings, comments and names; after a name,
-- blanks, and then an empty value or a separator; after that blanks, and then a value, or pieces, each with its line ending, and the last
-- one.
abbrev pub are_items : Place → List Token → Bool
are_items Between [] = true
are_items Between (HeaderToken h ∷ tokens) = are_items Between tokens
are_items Between (CommentToken tag text ∷ tokens) = are_items Between tokens
are_items Between (NewlineToken bytes ∷ tokens) = are_items Between tokens
are_items Between (WhitespaceToken bytes ∷ tokens) = are_items Between tokens
are_items Between (NameToken bytes ∷ tokens) = are_items BehindName tokens
are_items BehindName (WhitespaceToken bytes ∷ tokens) = is_filled bytes && are_items BehindNameBlanks tokens
are_items BehindName (ValueToken bytes ∷ tokens) = not (is_filled bytes) && are_items Between tokens
are_items BehindName (SeparatorToken ∷ tokens) = are_items BehindSeparator tokens
are_items BehindNameBlanks (ValueToken bytes ∷ tokens) = not (is_filled bytes) && are_items Between tokens
are_items BehindNameBlanks (SeparatorToken ∷ tokens) = are_items BehindSeparator tokens
are_items BehindSeparator (WhitespaceToken bytes ∷ tokens) = is_filled bytes && are_items BehindSeparatorBlanks tokens
are_items BehindSeparator (ValueToken bytes ∷ tokens) = are_items Between tokens
are_items BehindSeparator (ValueNotDoneToken bytes ∷ tokens) = are_items BehindPiece tokens
are_items BehindSeparatorBlanks (ValueToken bytes ∷ tokens) = are_items Between tokens
are_items BehindSeparatorBlanks (ValueNotDoneToken bytes ∷ tokens) = are_items BehindPiece tokens
are_items BehindPiece (NewlineToken bytes ∷ tokens) = is_filled bytes && are_items BehindPieceEnd tokens
are_items BehindPiece (ValueNotDoneToken bytes ∷ tokens) = are_items BehindPiece tokens
are_items BehindPiece (ValueDoneToken bytes ∷ tokens) = are_items Between tokens
are_items BehindPieceEnd (ValueNotDoneToken bytes ∷ tokens) = are_items BehindPiece tokens
are_items BehindPieceEnd (ValueDoneToken bytes ∷ tokens) = are_items Between tokens
are_items _ _ = false

-- all tokens are the first ones and then the others, and the others continue as items from this place
pub record AreBehind (place : Place) (first others all : List Token) : Type 0 where
  pub joined : first ++ others ≡ all
  pub go_on : are_items place others ≡ true
