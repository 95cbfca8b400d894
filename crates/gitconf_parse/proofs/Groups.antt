-- Tokens read as items, one more.
use Rattle.std.proofs.Common.{◌≡◌, ℕ, ◌<◌, true, List, [], ◌∷◌, ◌++◌, length, map, flat_map, arith, refl, ap, ◌∙◌}
use Rattle.std.specs.Prelude.{◌&&◌}
use Rattle.std.proofs.lemmas.List.{append_assoc, length-append, map-append}
use Rattle.std.proofs.lemmas.Grind.{flat_map-append}
use Rattle.gitconf_text.specs.Value as grammar
use Rattle.gitconf_text.specs.Part as parts
use Rattle.gitconf_text.specs.Token.{Token, NewlineToken, ValueNotDoneToken, ValueDoneToken, filled, piece_tokens, value_tokens, item_tokens}
use Rattle.gitconf_items.specs.declared.entry.Piece.{Piece}
use Rattle.gitconf_items.specs.Events.{bytes_of}
use Rattle.gitconf_items.specs.Items.{piece_of}
use Rattle.gitconf_items.specs.Grouping.{is_filled, Place, Between, BehindPieceEnd, are_items, AreBehind}

-- bytes that are there make one token
pub filled_first : (place : Place) (token : List ℕ → Token) (bytes : List ℕ) (others : List Token) → (is_filled bytes && are_items place others) ≡ true
    → AreBehind place (filled token bytes) others (token bytes ∷ others)
filled_first place token [] others h = absurd (cc)
filled_first place token (b ∷ bytes) others h = record { joined = refl; go_on = h }

-- one more at the end of a list
pub one_more : {A : Type 0} (tokens : A → List Token) (some : List A) (x : A) (others all : List Token)
    → flat_map tokens some ++ (tokens x ++ others) ≡ all → flat_map tokens (some ++ x ∷ []) ++ others ≡ all
one_more tokens some x others all h =
    ap (λ ts. ts ++ others) (flat_map-append tokens some (x ∷ []))
    ∙ append_assoc (flat_map tokens some) (tokens x ++ []) others
    ∙ ap (λ ts. flat_map tokens some ++ ts) (append_assoc (tokens x) [] others)
    ∙ h

-- a value of several pieces is them and the last
several : (pieces : List grammar.Piece) (p : grammar.Piece) (last : List ℕ) (others : List Token)
    → value_tokens (pieces ++ p ∷ []) last ++ others ≡ flat_map piece_tokens (pieces ++ p ∷ []) ++ ValueDoneToken last ∷ others
several [] p last others = append_assoc (flat_map piece_tokens (p ∷ [])) (ValueDoneToken last ∷ []) others
several (q ∷ pieces) p last others = append_assoc (flat_map piece_tokens (q ∷ (pieces ++ p ∷ []))) (ValueDoneToken last ∷ []) others

-- the last piece follows these
pub value_ends : (buffer : List ℕ) (some now : List Piece) (p : Piece) (last : List ℕ) (rest others all : List Token) → now ≡ some ++ p ∷ []
    → flat_map piece_tokens (map (piece_of buffer) some) ++ ValueNotDoneToken (bytes_of buffer p.text) ∷ rest ≡ all
    → AreBehind BehindPieceEnd (filled NewlineToken (bytes_of buffer p.line_end)) (ValueDoneToken last ∷ others) rest
    → AreBehind Between (value_tokens (map (piece_of buffer) now) last) others all
value_ends buffer some now p last rest others all is read line_end = record {
  joined = ap (λ ps. value_tokens (map (piece_of buffer) ps) last ++ others) is
      ∙ ap (λ ps. value_tokens ps last ++ others) (map-append (piece_of buffer) some (p ∷ []))
      ∙ several (map (piece_of buffer) some) (piece_of buffer p) last others
      ∙ one_more piece_tokens (map (piece_of buffer) some) (piece_of buffer p) (ValueDoneToken last ∷ others) all
      (ap (λ ts. flat_map piece_tokens (map (piece_of buffer) some) ++ ValueNotDoneToken (bytes_of buffer p.text) ∷ ts) line_end.joined ∙ read);
  go_on = line_end.go_on;
}

-- an item has a token
item_long : (i : parts.Item) → 0 < length (item_tokens i)
item_long (parts.BlanksItem run) = omega (arith)
item_long (parts.LineEndsItem run) = omega (arith)
item_long (parts.CommentItem tag text) = omega (arith)
item_long (parts.EntryItem e) = omega (arith)

pub fewer : (i : parts.Item) (others all : List Token) → item_tokens i ++ others ≡ all → length others < length all
fewer i others all h = let l = length-append (item_tokens i) others in let same : length (item_tokens i ++ others) ≡ length all = ap length h in let some = item_long i in omega (arith, l, same, some)
