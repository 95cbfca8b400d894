-- The raw text of a value is that of its tokens.
use Rattle.std.proofs.Common.{◌≡◌, ℕ, ◌+◌, ◌≤◌, ◌<◌, Bool, false, List, [], ◌∷◌, ◌++◌, length, drop, map, refl, ap, sym, ◌∙◌, append-nil}
use Rattle.std.specs.List.{flat_map}
use Rattle.std.proofs.lemmas.Grind.{flat_map-append}
use Rattle.std.proofs.lemmas.List.{map-append}
use Rattle.gitconf_text.specs.Token.{NewlineToken, ValueDoneToken, filled, piece_tokens, value_tokens}
use Rattle.gitconf_text.specs.Value.{Piece}
use Rattle.gitconf_items.specs.declared.entry.Piece.{Piece as Spans}
use Rattle.gitconf_items.specs.Events.{bytes_of}
use Rattle.gitconf_items.specs.Items.{piece_of}
use Rattle.gitconf_read.specs.declared.reading.value.PieceEnd.TheVariants as ends
use Rattle.gitconf_read.specs.ItemReading.{IsValueRead}
use Rattle.gitconf_read.specs.Reading.{piece_from, span}
use Rattle.gitconf_read.proofs.ItemReading.{IsBegun, begun, piece_more, value_ended, value_refused, value_unended}
use Rattle.gitconf_read.proofs.TokensLaws.{bytes_none}
use Rattle.gitconf_parse.specs.Places.{IsNoValue, raw_at, raw_bytes}

no_line_end : (bytes : List ℕ) → flat_map raw_bytes (filled NewlineToken bytes) ≡ []
no_line_end [] = refl
no_line_end (b ∷ bytes) = refl

pub raw_pieces : (pieces : List Piece) → flat_map raw_bytes (flat_map piece_tokens pieces) ≡ flat_map (λ (p : Piece). p.text) pieces
raw_pieces [] = refl
raw_pieces (p ∷ pieces) =
    flat_map-append raw_bytes (piece_tokens p) (flat_map piece_tokens pieces)
    ∙ ap (λ t. t ++ flat_map raw_bytes (flat_map piece_tokens pieces)) (ap (λ t. p.text ++ t) (no_line_end p.line_end) ∙ append-nil p.text)
    ∙ ap (λ t. p.text ++ t) (raw_pieces pieces)

raw_tokens : (pieces : List Piece) (last : List ℕ) → flat_map raw_bytes (value_tokens pieces last) ≡ flat_map (λ (p : Piece). p.text) pieces ++ last
raw_tokens [] last = append-nil last
raw_tokens (p ∷ pieces) last =
    flat_map-append raw_bytes (flat_map piece_tokens (p ∷ pieces)) (ValueDoneToken last ∷ [])
    ∙ ap (λ t. t ++ (last ++ [])) (raw_pieces (p ∷ pieces)) ∙ ap (λ t. flat_map (λ (p : Piece). p.text) (p ∷ pieces) ++ t) (append-nil last)

-- A value that is read has its raw text.
pub raw_is : (input : List ℕ) (first end : ℕ) (pieces : List Piece) (last : List ℕ) → IsValueRead input first end (value_tokens pieces last)
    → raw_at input first ≡ flat_map (λ (p : Piece). p.text) pieces ++ last
raw_is input first end pieces last r = rw (r.read [], raw_at) (ap (flat_map raw_bytes) r.tokens_are ∙ raw_tokens pieces last)

-- Where no value can be read, there is none.
pub raw_none : (input : List ℕ) (first : ℕ) → IsNoValue input first → raw_at input first ≡ []
raw_none input first none = rw (none [], raw_at) refl

-- the bytes of these pieces
abbrev bytes_of_pieces : (input : List ℕ) → List Spans → List ℕ
bytes_of_pieces input pieces = flat_map (λ (p : Piece). p.text) (map (piece_of input) pieces)

-- Pieces of the value that began at `first` were read, with these bytes; from here on it goes on.
pub record IsRawBegun (input : List ℕ) (first from : ℕ) (quoted : Bool) (raw : List ℕ) : Type 0 where
  pub pieces : List Spans
  pub begins : IsBegun input first from quoted pieces
  pub raw_of_them : raw ≡ bytes_of_pieces input pieces

pub raw_begun : (input : List ℕ) (first : ℕ) → IsRawBegun input first first false []
raw_begun input first = record { pieces = []; begins = begun input first; raw_of_them = refl }

bytes_more : (input : List ℕ) (pieces : List Spans) (p : Spans) → bytes_of_pieces input (pieces ++ p ∷ []) ≡ bytes_of_pieces input pieces ++ bytes_of input p.text
bytes_more input pieces p =
    ap (flat_map (λ (p : Piece). p.text)) (map-append (piece_of input) pieces (p ∷ []))
    ∙ flat_map-append (λ (p : Piece). p.text) (map (piece_of input) pieces) (piece_of input p ∷ [])
    ∙ ap (λ t. bytes_of_pieces input pieces ++ t) (append-nil (bytes_of input p.text))

-- one more
pub raw_more : (input : List ℕ) (first from : ℕ) (quoted : Bool) (raw : List ℕ) (at k : ℕ) (inner : Bool) → IsRawBegun input first from quoted raw
    → piece_from from quoted from 0 (drop from input) ≡ ends.GoesOn at k inner → 0 < k → at + 1 + k ≤ length input
    → IsRawBegun input first (at + 1 + k) inner (raw ++ bytes_of input (span from at))
raw_more input first from quoted raw at k inner r is some within =
    let p : Spans = record { text = span from at; line_end = span (at + 1) (at + 1 + k) } in
    record {
      pieces = r.pieces ++ p ∷ [];
      begins = piece_more input first from quoted r.pieces at k inner r.begins is some within;
      raw_of_them = ap (λ t. t ++ bytes_of input (span from at)) r.raw_of_them ∙ sym (bytes_more input r.pieces p);
    }

-- the last one
pub raw_ended : (input : List ℕ) (first from : ℕ) (quoted : Bool) (raw : List ℕ) (end : ℕ) → IsRawBegun input first from quoted raw
    → piece_from from quoted from 0 (drop from input) ≡ ends.Last end → raw ++ bytes_of input (span from end) ≡ raw_at input first
raw_ended input first from quoted raw end r is =
    ap (λ t. t ++ bytes_of input (span from end)) r.raw_of_them
    ∙ sym (raw_is input first end (map (piece_of input) r.pieces) (bytes_of input (span from end)) (value_ended input first from quoted r.pieces end r.begins is))

pub raw_unended : (input : List ℕ) (first from : ℕ) (quoted : Bool) (raw : List ℕ) (at : ℕ) → IsRawBegun input first from quoted raw
    → piece_from from quoted from 0 (drop from input) ≡ ends.Unended at → raw ++ bytes_of input (span from at) ≡ raw_at input first
raw_unended input first from quoted raw at r is =
    let p : Spans = record { text = span from at; line_end = record { start = 0; len = 0 } } in
    let last = bytes_of input (span (at + 1) (at + 1)) in
    ap (λ t. t ++ bytes_of input (span from at)) r.raw_of_them ∙ sym (bytes_more input r.pieces p)
    ∙ sym (append-nil (bytes_of_pieces input (r.pieces ++ p ∷ []))) ∙ ap (λ t. bytes_of_pieces input (r.pieces ++ p ∷ []) ++ t) (sym (bytes_none input (at + 1)))
    ∙ sym (raw_is input first (at + 1) (map (piece_of input) (r.pieces ++ p ∷ [])) last (value_unended input first from quoted r.pieces at r.begins is))

pub raw_refused : (input : List ℕ) (first from : ℕ) (quoted : Bool) (raw : List ℕ) → IsRawBegun input first from quoted raw → piece_from from quoted from 0 (drop from input) ≡ ends.Refused
    → raw_at input first ≡ []
raw_refused input first from quoted raw r is = raw_none input first (value_refused input first from quoted r.pieces r.begins is)
