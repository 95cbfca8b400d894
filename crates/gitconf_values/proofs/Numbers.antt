-- Numbers by tests and by `parse` of std.
use Rattle.std.proofs.Common.{◌≡◌, ◌<◌, ◌≤◌, ℕ, zero, suc, get_or, Bool, true, false, List, [], ◌∷◌, length, Option, Some, None, Result, Ok, Err, refl, sym, subst, ap, ◌∙◌, arith}
use Rattle.std.specs.Prelude.{ℤ, pos, negsuc, leb, ◌&&◌, ◌==◌, FitsSigned}
use mir.Syntax.{w64}
use Rattle.std.specs.Char.{digit_value, is_ascii_digit}
use Rattle.std.specs.List.{list_all}
use Rattle.std.specs.Str.{IsAscii, IsUtf8}
use Rattle.std.specs.Result.{result_ok}
use Rattle.std.specs.Str.Parse.{AllDigits, IsNumeral, ParsesSigned, signed_digits_value, without_leading_sign}
use Rattle.std.proofs.lemmas.Bool.{eqb-true, leb-true, le-leb, ltb-true, lt-ltb}
use Rattle.std.proofs.lemmas.Str.{digit_value_digit, IsAscii-append, IsUtf8-from_ascii}
use Rattle.std.proofs.lemmas.Str.Ascii.{IsAscii-nil, IsAscii-from_all}
use Rattle.std.proofs.lemmas.Fmt.{IsAscii-from_digits}
use Rattle.std.proofs.lemmas.Str.Parse.{digit_from_value}
use Rattle.gitconf_text.specs.Text.{begins}
use Rattle.gitconf_text.specs.Typed.{fits, is_numeral, number_of}

-- a test that passes both parts
both : (a b : Bool) → (a && b) ≡ true → (a ≡ true) × (b ≡ true)
both true true h = (refl, refl)
both true false h = absurd (cc)
both false b h = absurd (cc)

digit_is : (b : ℕ) → is_ascii_digit b ≡ true → digit_value b < 10
digit_is b is =
    let h = both (leb 48 b) (leb b 57) is in
    let low = leb-true 48 b h.0 in
    let high = leb-true b 57 h.1 in
    let value = digit_value_digit b (low, high) in
    omega (arith, value, low, high)

digit_test : (b : ℕ) → digit_value b < 10 → is_ascii_digit b ≡ true
digit_test b small = let h = digit_from_value b small in rw (le-leb 48 b h.0, le-leb b 57 h.1) refl

digits_are : (bytes : List ℕ) → list_all is_ascii_digit bytes ≡ true → AllDigits 10 bytes
digits_are [] all = tt
digits_are (b ∷ bytes) all = let h = both (is_ascii_digit b) (list_all is_ascii_digit bytes) all in (digit_is b h.0, digits_are bytes h.1)

digits_test : (bytes : List ℕ) → AllDigits 10 bytes → list_all is_ascii_digit bytes ≡ true
digits_test [] all = refl
digits_test (b ∷ bytes) all = rw (digit_test b all.0) (digits_test bytes all.1)

numeral_is : (bytes : List ℕ) → is_numeral bytes ≡ true → IsNumeral 10 bytes
numeral_is [] is = absurd (cc)
numeral_is (b ∷ bytes) is = (omega arith, digits_are (b ∷ bytes) (both (is_ascii_digit b) (list_all is_ascii_digit (b ∷ bytes)) is).1)

numeral_test : (bytes : List ℕ) → IsNumeral 10 bytes → is_numeral bytes ≡ true
numeral_test [] is = absurd (omega (arith, is.0))
numeral_test (b ∷ bytes) is = rw (digit_test b is.1.0) (digits_test bytes is.1.1)

fits_is : (z : ℤ) → fits z ≡ true → FitsSigned w64 z
fits_is (pos n) is = record { sfits = ltb-true n 9223372036854775808 is }
fits_is (negsuc n) is = record { sfits = let h = leb-true n 9223372036854775807 (both (leb n 9223372036854775807) true is).0 in omega (arith, h) }

fits_test : (z : ℤ) → FitsSigned w64 z → fits z ≡ true
fits_test (pos n) is = lt-ltb n 9223372036854775808 is.sfits
fits_test (negsuc n) is = rw (le-leb n 9223372036854775807 (let h = is.sfits in omega (arith, h))) refl

-- What `parse` returns is the number of the bytes.
pub parsed : {E : Type 0} (bytes : List ℕ) (r : Result ℤ E) → ParsesSigned w64 10 bytes r → result_ok r ≡ number_of bytes
parsed {E} bytes (Ok z) h = rw (numeral_test (without_leading_sign bytes) h.0.0, fits_test (signed_digits_value 10 bytes) h.0.1, number_of) (ap (λ t. Some t) h.1)
parsed {E} bytes (Err e) none = go (is_numeral (without_leading_sign bytes)) (fits (signed_digits_value 10 bytes)) refl refl
  where
    go : (a b : Bool) → is_numeral (without_leading_sign bytes) ≡ a → fits (signed_digits_value 10 bytes) ≡ b → None ≡ number_of bytes
    go true true e f = absurd (none (numeral_is (without_leading_sign bytes) e, fits_is (signed_digits_value 10 bytes) f))
    go true false e f = rw (e, f, number_of) refl
    go false b e f = rw (e, number_of) refl

-- a sign before digits
one_low : (b : ℕ) → b < 128 → (k d : ℕ) → k < 1 → get_or (b ∷ []) k d < 128
one_low b low zero d lt = low
one_low b low (suc k) d lt = absurd (omega (arith, lt))

signed_ascii : (b : ℕ) (rest : List ℕ) → b < 128 → IsAscii rest → IsAscii (b ∷ rest)
signed_ascii b rest low digits = IsAscii-append (b ∷ []) rest (IsAscii-from_all (b ∷ []) (one_low b low)) digits

numeral_ascii : (bytes : List ℕ) → IsNumeral 10 (without_leading_sign bytes) → IsAscii bytes
numeral_ascii [] is = IsAscii-nil
numeral_ascii (b ∷ rest) is = go (b == 45) (b == 43) refl refl
  where
    go : (minus plus : Bool) → (b == 45) ≡ minus → (b == 43) ≡ plus → IsAscii (b ∷ rest)
    go true plus e f = let same = eqb-true b 45 e in signed_ascii b rest (omega (arith, same)) (IsAscii-from_digits rest (let h = rw e at is in h.1))
    go false true e f = let same = eqb-true b 43 f in signed_ascii b rest (omega (arith, same)) (IsAscii-from_digits rest (let h = rw (e, f) at is in h.1))
    go false false e f = IsAscii-from_digits (b ∷ rest) (let h = rw (e, f) at is in h.1)

-- Bytes that are no UTF-8 write none.
pub no_number : (bytes : List ℕ) → (IsUtf8 bytes → ⊥) → number_of bytes ≡ None
no_number bytes bad = go (is_numeral (without_leading_sign bytes)) refl
  where
    go : (t : Bool) → is_numeral (without_leading_sign bytes) ≡ t → number_of bytes ≡ None
    go true e = absurd (bad (IsUtf8-from_ascii bytes (numeral_ascii bytes (numeral_is (without_leading_sign bytes) e))))
    go false e = rw (e, number_of) refl
