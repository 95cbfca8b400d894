-- Where a run of bytes that pass a test ends, and a comment's text.
use Rattle.std.proofs.Common.{◌≡◌, ℕ, ◌+◌, Bool, true, false, not, List, [], ◌∷◌, ◌++◌, refl, sym, ◌∙◌, arith}
use Rattle.std.specs.Prelude.{◌&&◌, ◌||◌, ◌==◌}
use Rattle.std.specs.List.{list_all}
use Rattle.std.proofs.lemmas.Bool.{eqb-true}
use Rattle.gitconf_text.specs.Text.{begins, ends, begins_line_end}
use Rattle.gitconf_text.specs.Part.{ends_comment}
use Rattle.gitconf_text.proofs.Tests.{both_true, false_not}

-- at each place of front, with rest after it, the test passes
abbrev pub AllPlaces : (List ℕ → Bool) → (front rest : List ℕ) → Type 0
AllPlaces test [] rest = Unit {0}
AllPlaces test (b ∷ front) rest = (test (b ∷ (front ++ rest)) ≡ true) × AllPlaces test front rest

-- at the front of rest it doesn't, or there is no byte
abbrev pub Stops : (List ℕ → Bool) → List ℕ → Type 0
Stops test [] = Unit {0}
Stops test (b ∷ rest) = test (b ∷ rest) ≡ false

-- A comment's text.
abbrev pub is_comment_text : List ℕ → Bool
is_comment_text text = not (begins_line_end text)

or_none : (a b : Bool) → a ≡ false → b ≡ false → (a || b) ≡ false
or_none true b p q = absurd (cc)
or_none false b p q = q

and_none : (a b : Bool) → (a ≡ true → b ≡ false) → (a && b) ≡ false
and_none true b h = h refl
and_none false b h = refl

not_false : (a : Bool) → a ≡ false → not a ≡ true
not_false true h = absurd (cc)
not_false false h = refl

comment_place : (b : ℕ) (text rest : List ℕ) → (b == 10) ≡ false → list_all (λ c. not (c == 10)) text ≡ true → (ends (λ c. c == 13) (b ∷ text) ≡ true → begins (λ c. c == 10) rest ≡ false)
    → begins_line_end (b ∷ (text ++ rest)) ≡ false
comment_place b [] rest other all last = or_none (b == 10) _ other (and_none (b == 13) _ last)
comment_place b (c ∷ text) rest other all last = or_none (b == 10) _ other (and_none (b == 13) _ (λ _. false_not (c == 10) (both_true (not (c == 10)) _ all).0))

comment_last : (b : ℕ) (text rest : List ℕ) → (ends (λ c. c == 13) (b ∷ text) ≡ true → begins (λ c. c == 10) rest ≡ false) → ends (λ c. c == 13) text ≡ true → begins (λ c. c == 10) rest ≡ false
comment_last b [] rest last h = absurd (cc)
comment_last b (c ∷ text) rest last h = last h

comment_places_from : (text rest : List ℕ) → list_all (λ c. not (c == 10)) text ≡ true → (ends (λ c. c == 13) text ≡ true → begins (λ c. c == 10) rest ≡ false) → AllPlaces is_comment_text text rest
comment_places_from [] rest all last = tt
comment_places_from (b ∷ text) rest all last =
    let q = both_true (not (b == 10)) (list_all (λ c. not (c == 10)) text) all in
    (not_false _ (comment_place b text rest (false_not (b == 10) q.0) q.1 last), comment_places_from text rest q.1 (comment_last b text rest last))

-- what may end a comment is no LF after a CR, and begins a line ending
ends_comment_last : (text rest : List ℕ) → ends_comment text rest ≡ true → ends (λ c. c == 13) text ≡ true → begins (λ c. c == 10) rest ≡ false
ends_comment_last text [] h last = refl
ends_comment_last text (b ∷ rest) h last = go (b == 10) refl (b == 13) refl
  where
    go : (t : Bool) → (b == 10) ≡ t → (s : Bool) → (b == 13) ≡ s → (b == 10) ≡ false
    go false e s k = e
    go true e true k = absurd (let x : 10 ≡ 13 = sym (eqb-true b 10 e) ∙ eqb-true b 13 k in omega arith)
    go true e false k = absurd (let x : (false && begins (λ c. c == 10) rest || true && not true) ≡ true = rw (e, k, last) at h in cc)

ends_comment_stops : (text rest : List ℕ) → ends_comment text rest ≡ true → Stops is_comment_text rest
ends_comment_stops text [] h = tt
ends_comment_stops text (b ∷ rest) h = go (b == 10) refl
  where
    go : (t : Bool) → (b == 10) ≡ t → not (begins_line_end (b ∷ rest)) ≡ false
    go true e = rw e refl
    go false e = rw e (let x : (b == 13 && begins (λ c. c == 10) rest || false) ≡ true = rw e at h in other (b == 13 && begins (λ c. c == 10) rest) x)
      where
        other : (s : Bool) → (s || false) ≡ true → not s ≡ false
        other true k = refl
        other false k = absurd (cc)

pub comment_places : (text rest : List ℕ) → list_all (λ c. not (c == 10)) text ≡ true → ends_comment text rest ≡ true → AllPlaces is_comment_text text rest × Stops is_comment_text rest
comment_places text rest all ended = (comment_places_from text rest all (ends_comment_last text rest ended), ends_comment_stops text rest ended)
