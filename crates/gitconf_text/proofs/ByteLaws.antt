-- Classes of bytes exclude each other.
use Rattle.std.proofs.Common.{◌≡◌, ℕ, Bool, true, false, List, [], ◌∷◌, ◌++◌, refl, ap, arith, cond, inl, inr}
use Rattle.std.specs.Prelude.{◌==◌, ◌&&◌, ◌||◌, ◌⊎◌}
use Rattle.std.specs.Char.{is_ascii_alphabetic}
use Rattle.std.proofs.lemmas.Bool.{eqb-true}
use Rattle.std.proofs.lemmas.Bool.Decides.{nat_tests}
use Rattle.gitconf_text.specs.Bytes.{is_blank, is_whitespace, is_name_byte, is_header_byte}
use Rattle.gitconf_text.specs.Text.{begins, begins_line_end, is_line_end}
use Rattle.gitconf_text.specs.Unit.{LineFeed, Quote, Mark, Backslash, White, Other, class_of, is_mark}
use Rattle.gitconf_text.proofs.Tests.{apart, both_true, refuted}

pub letter_no_blank : (b : ℕ) → is_ascii_alphabetic b ≡ true → is_blank b ≡ false
letter_no_blank b h = rw (apart is_ascii_alphabetic 32 b refl h, apart is_ascii_alphabetic 9 b refl h) refl

pub letter_no_line_end : (b : ℕ) (rest : List ℕ) → is_ascii_alphabetic b ≡ true → begins_line_end (b ∷ rest) ≡ false
letter_no_line_end b rest h = rw (apart is_ascii_alphabetic 10 b refl h, apart is_ascii_alphabetic 13 b refl h) refl

letter_no_whitespace : (b : ℕ) → is_ascii_alphabetic b ≡ true → is_whitespace b ≡ true → ⊥
letter_no_whitespace b h white = grind (arith, nat_tests)

pub letter_no_mark : (b : ℕ) → is_ascii_alphabetic b ≡ true → is_mark b ≡ false
letter_no_mark b h =
    let e : class_of b ≡ Other = rw (
      apart is_ascii_alphabetic 10 b refl h,
      apart is_ascii_alphabetic 34 b refl h,
      apart is_ascii_alphabetic 59 b refl h,
      apart is_ascii_alphabetic 35 b refl h,
      apart is_ascii_alphabetic 92 b refl h,
      refuted (is_whitespace b) (letter_no_whitespace b h),
    ) refl in
    rw (e, is_mark) refl

pub letter_no_bracket : (b : ℕ) → is_ascii_alphabetic b ≡ true → (b == 91) ≡ false
letter_no_bracket b h = apart is_ascii_alphabetic 91 b refl h

pub mark_no_blank : (b : ℕ) → is_mark b ≡ true → is_blank b ≡ false
mark_no_blank b h = rw (apart is_mark 32 b refl h, apart is_mark 9 b refl h) refl

pub mark_no_line_end : (b : ℕ) (rest : List ℕ) → is_mark b ≡ true → begins_line_end (b ∷ rest) ≡ false
mark_no_line_end b rest h = rw (apart is_mark 10 b refl h, apart is_mark 13 b refl h) refl

blank_no_line_end : (b : ℕ) (rest : List ℕ) → is_blank b ≡ true → begins_line_end (b ∷ rest) ≡ false
blank_no_line_end b rest h = rw (apart is_blank 10 b refl h, apart is_blank 13 b refl h) refl

pub line_end_no_blank : (b : ℕ) (rest : List ℕ) → begins_line_end (b ∷ rest) ≡ true → is_blank b ≡ false
line_end_no_blank b rest h = refuted (is_blank b) (λ e. let x = blank_no_line_end b rest e in cc)

pub blank_no_name_byte : (b : ℕ) → is_blank b ≡ true → is_name_byte b ≡ false
blank_no_name_byte b h = refuted (is_name_byte b) (λ e. clash b h e)
  where
    clash : (b : ℕ) → is_blank b ≡ true → is_name_byte b ≡ true → ⊥
    clash b h e = grind (arith, nat_tests)

pub blank_no_header_byte : (b : ℕ) → is_blank b ≡ true → is_header_byte b ≡ false
blank_no_header_byte b h = rw (blank_no_name_byte b h, apart is_blank 46 b refl h) refl

pub blank_no_bracket : (b : ℕ) → is_blank b ≡ true → (b == 93) ≡ false
blank_no_bracket b h = apart is_blank 93 b refl h

pub name_byte_header : (b : ℕ) → is_name_byte b ≡ true → is_header_byte b ≡ true
name_byte_header b h = rw h refl

pub letter_name_byte : (b : ℕ) → is_ascii_alphabetic b ≡ true → is_name_byte b ≡ true
letter_name_byte b h = go (is_name_byte b) refl
  where
    clash : (b : ℕ) → is_ascii_alphabetic b ≡ true → is_name_byte b ≡ false → ⊥
    clash b h e = grind (arith, nat_tests)

    go : (t : Bool) → is_name_byte b ≡ t → is_name_byte b ≡ true
    go true e = e
    go false e = absurd (clash b h e)

-- a line ending at the front of a text, whatever follows it
pub line_end_more : (b : ℕ) (front rest : List ℕ) → begins_line_end (b ∷ front) ≡ true → begins_line_end (b ∷ (front ++ rest)) ≡ true
line_end_more b [] rest h = go (b == 10) refl
  where
    go : (t : Bool) → (b == 10) ≡ t → (b == 10 || b == 13 && begins (λ c. c == 10) rest) ≡ true
    go true e = rw e refl
    go false e = absurd (let k : (false || b == 13 && false) ≡ true = rw e at h in none (b == 13) k)
      where
        none : (t : Bool) → (t && false) ≡ true → ⊥
        none true k = cc
        none false k = cc
line_end_more b (c ∷ front) rest h = h

-- one line ending is LF, or CR and LF
pub line_end_is : (text : List ℕ) → is_line_end text ≡ true → (text ≡ 10 ∷ []) ⊎ (text ≡ 13 ∷ 10 ∷ [])
line_end_is [] h = absurd (cc)
line_end_is (b ∷ []) h = inl (ap (λ x. x ∷ []) (eqb-true b 10 h))
line_end_is (b ∷ c ∷ []) h = let p = both_true (b == 13) (c == 10) h in inr (rw (eqb-true b 13 p.0, eqb-true c 10 p.1) refl)
line_end_is (b ∷ c ∷ d ∷ rest) h = absurd (let e = h in cc)

-- a test that fails, since what it chooses is not what was chosen
pub unchosen : {A : Type 0} (test : Bool) (x y z : A) → (x ≡ z → ⊥) → cond test x y ≡ z → (test ≡ false) × (y ≡ z)
unchosen true x y z differs h = absurd (differs h)
unchosen false x y z differs h = (refl, h)

pub backslash_is : (b : ℕ) → class_of b ≡ Backslash → b ≡ 92
backslash_is b h =
    let a = unchosen (b == 10) LineFeed _ Backslash (λ e. absurd (cc)) h in
    let c = unchosen (b == 34) Quote _ Backslash (λ e. absurd (cc)) a.1 in
    let d = unchosen (b == 59 || b == 35) Mark _ Backslash (λ e. absurd (cc)) c.1 in
    go (b == 92) refl d.1
  where
    go : (t : Bool) → (b == 92) ≡ t → cond (b == 92) Backslash (cond (is_whitespace b) White Other) ≡ Backslash → b ≡ 92
    go true e k = eqb-true b 92 e
    go false e k = go2 (is_whitespace b) refl (rw e at k)
      where
        go2 : (t : Bool) → is_whitespace b ≡ t → cond (is_whitespace b) White Other ≡ Backslash → b ≡ 92
        go2 true e k = absurd (let h = rw e at k in cc)
        go2 false e k = absurd (let h = rw e at k in cc)
