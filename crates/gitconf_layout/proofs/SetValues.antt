-- The values of entries that are set may be in a text.
use Rattle.std.proofs.Common.{◌≡◌, ℕ, Bool, true, false, List, [], ◌∷◌, ◌++◌, map, inl, inr, refl, ap, sym, subst, ◌∙◌, append-nil}
use Rattle.std.specs.Prelude.{◌⊎◌, flat_map, if◌then◌else◌}
use Rattle.std.specs.List.{list_all}
use Rattle.gitconf_text.specs.Bytes.{is_blank}
use Rattle.gitconf_text.specs.Text.{begins, ends, is_line_end}
use Rattle.gitconf_text.specs.Unit.{units_of, is_white}
use Rattle.gitconf_text.specs.Value.{Piece, Value as ValueOf, spelled_value, raw_of, value_units, may_follow_value, are_paired, IsEnded, FitsValue}
use Rattle.gitconf_state.proofs.Printing.FittedEntry.{IsClosed}
use Rattle.gitconf_layout.specs.declared.format.Options.{Options}
use Rattle.gitconf_layout.proofs.SetEntries.{set_end, set_piece, set_value, gap, PieceEnd, PieceEnds}

-- blanks on either side of `=` are blanks
pub gap_blank : (o : Options) → list_all is_blank (gap o) ≡ true
gap_blank o = go o.spaces_around_separator
  where
    go : (spaces : Bool) → list_all is_blank (if◌then◌else◌ {A = List ℕ} spaces (32 ∷ []) []) ≡ true
    go true = refl
    go false = refl

-- the raw text stays
pub raw_same : (e : List ℕ) (v : ValueOf) → raw_of (set_value e v) ≡ raw_of v
raw_same e v = ap (λ t. t ++ v.last) (go v.pieces)
  where
    go : (pieces : List Piece) → flat_map (λ (p : Piece). p.text) (map (set_piece e) pieces) ≡ flat_map (λ (p : Piece). p.text) pieces
    go [] = refl
    go (p ∷ pieces) = ap (λ t. p.text ++ t) (go pieces)

units_same : (e : List ℕ) (v : ValueOf) → value_units (set_value e v) ≡ value_units v
units_same e v = ap (λ t. t ++ units_of v.last) (go v.pieces)
  where
    go : (pieces : List Piece) → flat_map (λ (p : Piece). units_of p.text) (map (set_piece e) pieces) ≡ flat_map (λ (p : Piece). units_of p.text) pieces
    go [] = refl
    go (p ∷ pieces) = ap (λ t. units_of p.text ++ t) (go pieces)

-- what begins with no blank before others begins with none alone
pub begins_front : (text rest : List ℕ) → begins is_blank (text ++ rest) ≡ false → begins is_blank text ≡ false
begins_front [] rest h = refl
begins_front (b ∷ text) rest h = h

pub front_piece : (text line_end other behind more : List ℕ) → begins is_blank (((text ++ 92 ∷ line_end) ++ behind) ++ more) ≡ false → (behind' more' : List ℕ) → begins is_blank (((text ++ 92 ∷ other) ++ behind') ++ more') ≡ false
front_piece [] line_end other behind more h behind' more' = refl
front_piece (b ∷ text) line_end other behind more h behind' more' = h

-- a value that is set begins as it did
front_same : (e : List ℕ) (pieces : List Piece) (last : List ℕ) → begins is_blank (spelled_value (record { pieces = pieces; last = last })) ≡ false
    → begins is_blank (spelled_value (set_value e (record { pieces = pieces; last = last }))) ≡ false
front_same e [] last h = h
front_same e (p ∷ pieces) last h = front_piece p.text p.line_end (set_end e p.line_end) _ last h _ last

-- a line ending stays one
pub end_set : (e line_end : List ℕ) → is_line_end e ≡ true → is_line_end line_end ≡ true → is_line_end (set_end e line_end) ≡ true
end_set e [] line h = absurd (cc)
end_set e (b ∷ bytes) line h = line

end_none : (e line_end : List ℕ) → line_end ≡ [] → set_end e line_end ≡ []
end_none e [] h = refl
end_none e (b ∷ bytes) h = absurd (cc)

-- each piece has its line ending, or the last is left open at the end of the text
abbrev pub Ways : (e : List ℕ) (pieces : List Piece) (last rest : List ℕ) → Type 0
Ways e pieces last rest =
    ((list_all (λ (p : Piece). is_line_end p.line_end) (map (set_piece e) pieces) ≡ true) × (ends is_white last ≡ false) × (may_follow_value rest ≡ true))
    ⊎ ((rest ≡ []) × IsEnded (map (set_piece e) pieces) last [])

pub ways : (e : List ℕ) → is_line_end e ≡ true → (pieces : List Piece) (last rest : List ℕ) → IsEnded pieces last rest → Ways e pieces last rest
ways e line [] last rest ended = inl (refl, ended.0, ended.1)
ways e line (p ∷ pieces) last rest ended = elim ended [
  | inl more ↦ elim (ways e line pieces last rest more.1) [
    | inl closed ↦ inl (rw (end_set e p.line_end line more.0) closed.0, closed.1, closed.2)
    | inr bare ↦ inr (bare.0, inl (end_set e p.line_end line more.0, bare.1))
  ]
  | inr bare ↦ inr (bare.3, inr (end_none e p.line_end bare.0, ap (map (set_piece e)) bare.1, bare.2, refl))
]

piece_end : (line_end : List ℕ) → is_line_end line_end ≡ true → PieceEnd line_end
piece_end [] h = tt
piece_end (b ∷ bytes) h = h

no_end : (line_end : List ℕ) → line_end ≡ [] → PieceEnd line_end
no_end [] h = tt
no_end (b ∷ bytes) h = absurd (cc)

pub piece_ends : (pieces : List Piece) (last rest : List ℕ) → IsEnded pieces last rest → PieceEnds pieces
piece_ends [] last rest ended = tt
piece_ends (p ∷ pieces) last rest ended = elim ended [
  | inl more ↦ (piece_end p.line_end more.0, piece_ends pieces last rest more.1)
  | inr bare ↦ (no_end p.line_end bare.0, subst PieceEnds (sym bare.1) tt)
]

-- a value that is set, whose pieces have their line endings
pub set_closed : (o : Options) (e : List ℕ) (v : ValueOf) (rest : List ℕ) → FitsValue v rest → list_all (λ (p : Piece). is_line_end p.line_end) (map (set_piece e) v.pieces) ≡ true → ends is_white v.last ≡ false
    → IsClosed (record { blanks = gap o; value = set_value e v })
set_closed o e v rest fits closed last = record {
  blanks = gap_blank o;
  front = front_same e v.pieces v.last (begins_front (spelled_value v) rest fits.front);
  units = ap (are_paired false) (units_same e v) ∙ fits.units;
  pieces = closed;
  last = last;
}

-- a value that is set and left open at the end
pub set_bare : (e : List ℕ) (v : ValueOf) (rest : List ℕ) → FitsValue v rest → IsEnded (map (set_piece e) v.pieces) v.last [] → FitsValue (set_value e v) []
set_bare e v rest fits bare = record {
  front = ap (begins is_blank) (append-nil (spelled_value (set_value e v))) ∙ front_same e v.pieces v.last (begins_front (spelled_value v) rest fits.front);
  units = ap (are_paired false) (units_same e v) ∙ fits.units;
  end = bare;
}
