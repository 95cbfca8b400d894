-- Counts by tests and by `parse` of std.
use Rattle.std.proofs.Common.{◌≡◌, ◌<◌, ℕ, Bool, true, false, List, [], ◌∷◌, Some, None, Result, Ok, Err, refl, ap, arith}
use Rattle.std.specs.Prelude.{leb, ltb, ◌&&◌}
use Rattle.std.specs.Char.{digit_value, is_ascii_digit}
use Rattle.std.specs.List.{list_all}
use Rattle.std.specs.Result.{result_ok}
use Rattle.std.specs.Str.Parse.{AllDigits, IsNumeral, ParsesUnsigned, digits_value, without_leading_plus}
use Rattle.std.proofs.lemmas.Bool.{leb-true, le-leb, ltb-true, lt-ltb}
use Rattle.std.proofs.lemmas.Str.{digit_value_digit}
use Rattle.std.proofs.lemmas.Str.Parse.{digit_from_value}
use Rattle.gitconf_text.specs.Typed.{is_numeral}
use Rattle.gixcfg_words.specs.Spelling.{count_of}

-- a test that passes both parts
both : (a b : Bool) → (a && b) ≡ true → (a ≡ true) × (b ≡ true)
both true true h = (refl, refl)
both true false h = absurd (cc)
both false b h = absurd (cc)

digit_is : (b : ℕ) → is_ascii_digit b ≡ true → digit_value b < 10
digit_is b is =
    let h = both (leb 48 b) (leb b 57) is in
    let low = leb-true 48 b h.0 in
    let high = leb-true b 57 h.1 in
    let value = digit_value_digit b (low, high) in
    omega (arith, value, low, high)

digit_test : (b : ℕ) → digit_value b < 10 → is_ascii_digit b ≡ true
digit_test b small = let h = digit_from_value b small in rw (le-leb 48 b h.0, le-leb b 57 h.1) refl

digits_are : (bytes : List ℕ) → list_all is_ascii_digit bytes ≡ true → AllDigits 10 bytes
digits_are [] all = tt
digits_are (b ∷ bytes) all = let h = both (is_ascii_digit b) (list_all is_ascii_digit bytes) all in (digit_is b h.0, digits_are bytes h.1)

digits_test : (bytes : List ℕ) → AllDigits 10 bytes → list_all is_ascii_digit bytes ≡ true
digits_test [] all = refl
digits_test (b ∷ bytes) all = rw (digit_test b all.0) (digits_test bytes all.1)

numeral_is : (bytes : List ℕ) → is_numeral bytes ≡ true → IsNumeral 10 bytes
numeral_is [] is = absurd (cc)
numeral_is (b ∷ bytes) is = (omega arith, digits_are (b ∷ bytes) (both (is_ascii_digit b) (list_all is_ascii_digit (b ∷ bytes)) is).1)

numeral_test : (bytes : List ℕ) → IsNumeral 10 bytes → is_numeral bytes ≡ true
numeral_test [] is = absurd (omega (arith, is.0))
numeral_test (b ∷ bytes) is = rw (digit_test b is.1.0) (digits_test bytes is.1.1)

-- what `parse` returns is the count of the digits
pub counted : {E : Type 0} (digits : List ℕ) (r : Result ℕ E) → ParsesUnsigned 8 10 digits r → result_ok r ≡ count_of digits
counted {E} digits (Ok n) h =
    rw (numeral_test (without_leading_plus digits) h.0.0, lt-ltb (digits_value 10 (without_leading_plus digits)) 256 h.0.1, count_of) (ap (λ t. Some t) h.1)
counted {E} digits (Err e) none = go (is_numeral (without_leading_plus digits)) (ltb (digits_value 10 (without_leading_plus digits)) 256) refl refl
  where
    go : (a b : Bool) → is_numeral (without_leading_plus digits) ≡ a → ltb (digits_value 10 (without_leading_plus digits)) 256 ≡ b → None ≡ count_of digits
    go true true e f = absurd (none (numeral_is (without_leading_plus digits) e, ltb-true (digits_value 10 (without_leading_plus digits)) 256 f))
    go true false e f = rw (e, f, count_of) refl
    go false b e f = rw (e, count_of) refl
