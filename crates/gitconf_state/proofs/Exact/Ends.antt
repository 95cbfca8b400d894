-- The last byte of a text, and the items of a text that ends with LF: a piece that continues has its line ending, and the last item is line endings.
use Rattle.std.proofs.Common.{◌≡◌, ℕ, Bool, true, false, not, List, [], ◌∷◌, ◌++◌, flat_map, refl, sym, ◌∙◌, inl, inr}
use Rattle.std.specs.Prelude.{◌⊎◌, ◌==◌}
use Rattle.std.specs.List.{list_all}
use Rattle.std.proofs.lemmas.Bool.{eqb-true}
use Rattle.std.proofs.lemmas.List.Folds.{list_all-append}
use Rattle.gitconf_text.specs.Text.{ends}
use Rattle.gitconf_text.specs.Unit.{Class, LineFeed, Quote, Mark, Backslash, White, Other, class_of, TextUnit, Escape, OpenEscape, Plain, units_behind, units_of}
use Rattle.gitconf_text.specs.Value.{Piece, is_value_escape, are_paired}
use Rattle.gitconf_text.proofs.Tests.{both_true, apart}
use Rattle.gitconf_state.proofs.Loading.Filters.{both_hold}

-- LF
abbrev pub is_feed : ℕ → Bool
is_feed b = b == 10

-- any other byte
abbrev pub is_no_feed : ℕ → Bool
is_no_feed b = not (b == 10)

-- the text is empty, or ends with LF
abbrev pub EndsLine : List ℕ → Type 0
EndsLine text = (text ≡ []) ⊎ (ends is_feed text ≡ true)

-- so is its rest, after any front
pub rest_ends_line : (front rest : List ℕ) → EndsLine (front ++ rest) → EndsLine rest
rest_ends_line [] rest ended = ended
rest_ends_line (b ∷ []) [] ended = inl refl
rest_ends_line (b ∷ []) (c ∷ rest) (inl none) = absurd (cc)
rest_ends_line (b ∷ []) (c ∷ rest) (inr ended) = inr ended
rest_ends_line (b ∷ c ∷ front) rest (inl none) = absurd (cc)
rest_ends_line (b ∷ c ∷ front) rest (inr ended) = rest_ends_line (c ∷ front) rest (inr ended)

-- a text with a byte and without LF doesn't end a line
pub no_line_ends : (b : ℕ) (text : List ℕ) → list_all is_no_feed (b ∷ text) ≡ true → EndsLine (b ∷ text) → ⊥
no_line_ends b text all (inl none) = cc
no_line_ends b [] all (inr ended) = (let p = both_true (not (b == 10)) true all in let q = rw ended at p.0 in cc)
no_line_ends b (c ∷ text) all (inr ended) = no_line_ends c text (both_true (is_no_feed b) (list_all is_no_feed (c ∷ text)) all).1 (inr ended)

-- bytes that pass a test that LF doesn't
pub none_feeds : (test : ℕ → Bool) (text : List ℕ) → test 10 ≡ false → list_all test text ≡ true → list_all is_no_feed text ≡ true
none_feeds test [] fails all = refl
none_feeds test (b ∷ text) fails all =
    let p = both_true (test b) (list_all test text) all in
    both_hold (is_no_feed b) (list_all is_no_feed text) (rw (apart test 10 b fails p.0) refl) (none_feeds test text fails p.1)

-- two texts without LF, put together
pub no_feeds : (front rest : List ℕ) → list_all is_no_feed front ≡ true → list_all is_no_feed rest ≡ true → list_all is_no_feed (front ++ rest) ≡ true
no_feeds front rest p q = list_all-append is_no_feed front rest ∙ both_hold (list_all is_no_feed front) (list_all is_no_feed rest) p q

-- a byte of another class than LF's
other_class : (b : ℕ) (c : Class) → class_of b ≡ c → (LineFeed ≡ c → ⊥) → is_no_feed b ≡ true
other_class b c is differs = go (b == 10) refl
  where
    go : (t : Bool) → (b == 10) ≡ t → not t ≡ true
    go false e = refl
    go true e = absurd (differs (let feed : class_of b ≡ LineFeed = rw (eqb-true b 10 e) refl in sym feed ∙ is))

-- units after others of a value that is paired are paired too
paired_rest : (quoted : Bool) (units more : List TextUnit) → are_paired quoted (units ++ more) ≡ true → (later : Bool) × (are_paired later more ≡ true)
paired_rest quoted [] more paired = (quoted, paired)
paired_rest quoted (Escape b ∷ units) more paired = paired_rest quoted units more (both_true (is_value_escape b) (are_paired quoted (units ++ more)) paired).1
paired_rest quoted (OpenEscape ∷ units) more paired = absurd (cc)
paired_rest quoted (Plain b ∷ units) more paired = go (class_of b) refl (paired_rest (not quoted) units more) (paired_rest quoted units more)
  where
    go : (c : Class) → class_of b ≡ c → (are_paired (not quoted) (units ++ more) ≡ true → (later : Bool) × (are_paired later more ≡ true))
        → (are_paired quoted (units ++ more) ≡ true → (later : Bool) × (are_paired later more ≡ true)) → (later : Bool) × (are_paired later more ≡ true)
    go Quote e turned same = turned (rw (e, are_paired) at paired)
    go Mark e turned same = same (both_true quoted (are_paired quoted (units ++ more)) (rw (e, are_paired) at paired)).1
    go LineFeed e turned same = absurd (let h = rw (e, are_paired) at paired in cc)
    go Backslash e turned same = same (rw (e, are_paired) at paired)
    go White e turned same = same (rw (e, are_paired) at paired)
    go Other e turned same = same (rw (e, are_paired) at paired)

-- a paired text has no LF
paired_text : (escaped quoted : Bool) (text : List ℕ) → are_paired quoted (units_behind escaped text) ≡ true → list_all is_no_feed text ≡ true
paired_text escaped quoted [] paired = refl
paired_text true quoted (b ∷ text) paired =
    let p = both_true (is_value_escape b) (are_paired quoted (units_behind false text)) paired in
    both_hold (is_no_feed b) (list_all is_no_feed text) (rw (apart is_value_escape 10 b refl p.0) refl) (paired_text false quoted text p.1)
paired_text false quoted (b ∷ text) paired = go (class_of b) refl (paired_text true quoted text) (paired_text false (not quoted) text) (paired_text false quoted text)
  where
    go : (c : Class) → class_of b ≡ c → (are_paired quoted (units_behind true text) ≡ true → list_all is_no_feed text ≡ true)
        → (are_paired (not quoted) (units_behind false text) ≡ true → list_all is_no_feed text ≡ true)
        → (are_paired quoted (units_behind false text) ≡ true → list_all is_no_feed text ≡ true) → list_all is_no_feed (b ∷ text) ≡ true
    go LineFeed e escaped turned same = absurd (let h = rw (e, units_behind) at paired in let k = rw (e, are_paired) at h in cc)
    go Backslash e escaped turned same = both_hold _ _ (other_class b Backslash e (λ d. cc)) (escaped (rw (e, units_behind) at paired))
    go Quote e escaped turned same = both_hold _ _ (other_class b Quote e (λ d. cc)) (turned (let h = rw (e, units_behind) at paired in rw (e, are_paired) at h))
    go Mark e escaped turned same = both_hold _ _ (other_class b Mark e (λ d. cc)) (same (both_true quoted _ (let h = rw (e, units_behind) at paired in rw (e, are_paired) at h)).1)
    go White e escaped turned same = both_hold _ _ (other_class b White e (λ d. cc)) (same (let h = rw (e, units_behind) at paired in rw (e, are_paired) at h))
    go Other e escaped turned same = both_hold _ _ (other_class b Other e (λ d. cc)) (same (let h = rw (e, units_behind) at paired in rw (e, are_paired) at h))

-- The last piece of a value has no LF.
pub last_piece : (pieces : List Piece) (last : List ℕ) → are_paired false (flat_map (λ (p : Piece). units_of p.text) pieces ++ units_of last) ≡ true → list_all is_no_feed last ≡ true
last_piece pieces last paired =
    let r = paired_rest false (flat_map (λ (p : Piece). units_of p.text) pieces) (units_of last) paired in
    paired_text false r.0 last r.1
