-- A quoted subsection is read to its quote, and what is read so is one.
use Rattle.std.proofs.Common.{◌≡◌, ◌≤◌, ℕ, zero, suc, ◌+◌, Bool, true, false, not, List, [], ◌∷◌, ◌++◌, length, drop, Some, refl, ap, subst, arith}
use Rattle.std.specs.Prelude.{◌||◌, ◌==◌}
use Rattle.std.proofs.Common.{cond}
use Rattle.std.proofs.lemmas.Bool.{eqb-true}
use Rattle.gitconf_text.specs.Bytes.{is_whitespace}
use Rattle.std.specs.List.{list_all}
use Rattle.gitconf_text.specs.Unit.{Class, LineFeed, Quote, Mark, Backslash, White, Other, class_of, Plain, units_of, units_behind}
use Rattle.gitconf_text.specs.Header.{is_subsection_unit, is_spelling}
use Rattle.gitconf_text.proofs.ByteLaws.{unchosen, backslash_is}
use Rattle.gitconf_read.specs.Reading.{spelling_from, escapes_in_subsection}
use Rattle.gitconf_text.proofs.Tests.{both_true}
use Rattle.gitconf_read.proofs.ValueAgain.{skip_of}

quote_is : (b : ℕ) → class_of b ≡ Quote → b ≡ 34
quote_is b h = go (b == 34) refl
  where
    a : cond (b == 34) Quote (cond (b == 59 || b == 35) Mark (cond (b == 92) Backslash (cond (is_whitespace b) White Other))) ≡ Quote
    a = (unchosen (b == 10) LineFeed _ Quote (λ e. absurd (cc)) h).1

    white : (t : Bool) → cond t White Other ≡ Quote → ⊥
    white true k = cc
    white false k = cc

    go : (t : Bool) → (b == 34) ≡ t → b ≡ 34
    go true e = eqb-true b 34 e
    go false e =
        let c = unchosen (b == 59 || b == 35) Mark _ Quote (λ k. absurd (cc)) (rw e at a) in
        let d = unchosen (b == 92) Backslash _ Quote (λ k. absurd (cc)) c.1 in
        absurd (white (is_whitespace b) d.1)

-- a backslash comes before what may be escaped
escape_stands : (text rest : List ℕ) → list_all is_subsection_unit (units_behind true text) ≡ true → escapes_in_subsection (text ++ rest) ≡ true
escape_stands [] rest h = absurd (cc)
escape_stands (b ∷ text) rest h = (both_true (not (b == 10)) _ h).0

pub spelling_again : (escaped : Bool) (text rest : List ℕ) (n end : ℕ) → n + length text ≡ end → list_all is_subsection_unit (units_behind escaped text) ≡ true
    → spelling_from n (skip_of escaped) (text ++ 34 ∷ rest) ≡ Some end
unfolding spelling_from
spelling_again true [] rest n end at h = absurd (cc)
spelling_again false [] rest n end at h = let e : n ≡ end = omega arith in ap (λ (m : ℕ). Some m) e
spelling_again true (b ∷ text) rest n end at h = spelling_again false text rest (n + 1) end (omega arith) (both_true (not (b == 10)) _ h).1
spelling_again false (b ∷ text) rest n end at h = go (class_of b) refl (λ escaped. spelling_again escaped text rest (n + 1) end)
  where
    Later : Type 0
    Later = (escaped : Bool) → n + 1 + length text ≡ end → list_all is_subsection_unit (units_behind escaped text) ≡ true
        → spelling_from (n + 1) (skip_of escaped) (text ++ 34 ∷ rest) ≡ Some end

    off : n + 1 + length text ≡ end
    off = omega arith

    go : (c : Class) → class_of b ≡ c → Later → spelling_from n 0 ((b ∷ text) ++ 34 ∷ rest) ≡ Some end
    go LineFeed e later = absurd (let x = rw (e, units_behind) at h in let y = rw (e, is_subsection_unit) at x in cc)
    go Quote e later = absurd (let x = rw (e, units_behind) at h in let y = rw (e, is_subsection_unit) at x in cc)
    go Backslash e later =
        let x = rw (e, units_behind) at h in
        rw (e, spelling_from) (rw (escape_stands text (34 ∷ rest) x) (later true off x))
    go Mark e later = rw (e, spelling_from) (later false off (let x = rw (e, units_behind) at h in rw (e, is_subsection_unit) at x))
    go White e later = rw (e, spelling_from) (later false off (let x = rw (e, units_behind) at h in rw (e, is_subsection_unit) at x))
    go Other e later = rw (e, spelling_from) (later false off (let x = rw (e, units_behind) at h in rw (e, is_subsection_unit) at x))

-- a text that begins with a spelling and its quote
pub record SpellingShape (text : List ℕ) : Type 0 where
  pub spelling : List ℕ
  pub rest : List ℕ
  pub whole : text ≡ spelling ++ 34 ∷ rest
  pub fits : is_spelling spelling ≡ true

front_byte : (b : ℕ) (text : List ℕ) → ((t : List ℕ) → units_of (b ∷ t) ≡ Plain b ∷ units_of t) → is_subsection_unit (Plain b) ≡ true → SpellingShape text → SpellingShape (b ∷ text)
front_byte b text cut good s = record {
  spelling = b ∷ s.spelling;
  rest = s.rest;
  whole = ap (λ t. b ∷ t) s.whole;
  fits = rw (cut s.spelling) (rw good s.fits);
}

escapes_byte : (text : List ℕ) → escapes_in_subsection text ≡ true → (b : ℕ) × (rest : List ℕ) × (text ≡ b ∷ rest) × (not (b == 10) ≡ true)
escapes_byte [] h = absurd (cc)
escapes_byte (b ∷ rest) h = (b, rest, refl, h)

pub spelling_takes : (text : List ℕ) (n skip end : ℕ) → spelling_from n skip text ≡ Some end → skip ≤ length text → SpellingShape (drop skip text)
unfolding spelling_from
spelling_takes [] n skip end read within = absurd (let x = read in cc)
spelling_takes (b ∷ text) n (suc skip) end read within = spelling_takes text (n + 1) skip end read (omega arith)
spelling_takes (b ∷ text) n zero end read within = go (class_of b) refl (λ skip. spelling_takes text (n + 1) skip end)
  where
    Later : Type 0
    Later = (skip : ℕ) → spelling_from (n + 1) skip text ≡ Some end → skip ≤ length text → SpellingShape (drop skip text)

    escape : (t : Bool) → escapes_in_subsection text ≡ t → class_of b ≡ Backslash → Later → SpellingShape (b ∷ text)
    escape false k e later = absurd (let x = rw k at (rw (e, spelling_from) at read) in cc)
    escape true k e later =
        let is = escapes_byte text k in
        let c = is.0 in
        let s : SpellingShape is.1 = subst (λ t. SpellingShape t) (ap (λ t. drop 1 t) is.2) (later 1 (rw k at (rw (e, spelling_from) at read)) (rw is.2 (omega arith))) in
        let b_is : b ≡ 92 = backslash_is b e in
        let text_is : text ≡ c ∷ is.1 = is.2 in
        let same : 92 ∷ c ∷ is.1 ≡ b ∷ text = cc in
        subst (λ t. SpellingShape t) same (record {
          spelling = 92 ∷ c ∷ s.spelling;
          rest = s.rest;
          whole = ap (λ t. 92 ∷ c ∷ t) s.whole;
          fits = rw is.3 s.fits;
        })

    go : (c : Class) → class_of b ≡ c → Later → SpellingShape (b ∷ text)
    go LineFeed e later = absurd (let x = rw (e, spelling_from) at read in cc)
    go Quote e later = record { spelling = []; rest = text; whole = ap (λ x. x ∷ text) (quote_is b e); fits = refl }
    go Backslash e later = escape (escapes_in_subsection text) refl e later
    go Mark e later = front_byte b text (λ t. rw (e, units_behind) refl) (rw (e, is_subsection_unit) refl) (later 0 (rw (e, spelling_from) at read) (omega arith))
    go White e later = front_byte b text (λ t. rw (e, units_behind) refl) (rw (e, is_subsection_unit) refl) (later 0 (rw (e, spelling_from) at read) (omega arith))
    go Other e later = front_byte b text (λ t. rw (e, units_behind) refl) (rw (e, is_subsection_unit) refl) (later 0 (rw (e, spelling_from) at read) (omega arith))
