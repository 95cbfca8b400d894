-- The digits of bytes: none is an upper case letter, and they are read back.
use Rattle.std.proofs.Common.{◌≡◌, ℕ, zero, suc, Ok, ◌/◌, ◌%◌, ◌<◌, Bool, true, false, ◌&&◌, not, List, [], ◌∷◌, slice_index, refl, sym, ◌∙◌, arith, inl, inr}
use Rattle.std.specs.List.{list_any}
use Rattle.std.specs.Char.{is_ascii_uppercase}
use Rattle.std.proofs.lemmas.Bool.{and_parts, cases_lt}
use Rattle.hex.specs.Hex.{IsBytes, decode_of, encode_lower, encode_with, lower_digits}
use Rattle.hex.proofs.HexLemmas.{decode_of-encode_lower}

-- the first n digits are no upper case letters
abbrev are_lower : ℕ → Bool
are_lower zero = true
are_lower (suc n) = not (is_ascii_uppercase (slice_index lower_digits n)) && are_lower n

from_not : (b : Bool) → not b ≡ true → b ≡ false
from_not false h = refl
from_not true h = absurd (let e = h in cc)

digit_is_lower : (n k : ℕ) → are_lower n ≡ true → k < n → is_ascii_uppercase (slice_index lower_digits k) ≡ false
digit_is_lower zero k h lt = absurd (omega arith)
digit_is_lower (suc n) k h lt =
    let parts = and_parts (not (is_ascii_uppercase (slice_index lower_digits n))) (are_lower n) h in
    elim (cases_lt k n) [
      | inl below ↦ digit_is_lower n k parts.1 below
      | inr top ↦
          let e : k ≡ n = omega arith in
          rw e (from_not (is_ascii_uppercase (slice_index lower_digits n)) parts.0)
    ]

-- in the digits of bytes there is no upper case letter
pub digits_are_lower : (bytes : List ℕ) → IsBytes bytes → list_any is_ascii_uppercase (encode_lower bytes) ≡ false
unfolding encode_with
digits_are_lower [] h = refl
digits_are_lower (b ∷ rest) h =
    let fits : b < 256 = h 0 in
    let high : b / 16 < 16 = omega arith in
    let low : b % 16 < 16 = omega arith in
    let first = digit_is_lower 16 (b / 16) refl high in
    let second = digit_is_lower 16 (b % 16) refl low in
    let others = digits_are_lower rest (λ k. h (suc k)) in
    rw (first, second, others) refl

-- the digits of bytes stand for these
pub decodes_back : (bytes : List ℕ) → IsBytes bytes → decode_of (encode_lower bytes) ≡ Ok bytes
decodes_back bytes fits = decode_of-encode_lower bytes fits

-- what the digits of bytes stand for are these
pub are_these : (digits items bytes : List ℕ) → IsBytes bytes → digits ≡ encode_lower bytes → decode_of digits ≡ Ok items → items ≡ bytes
are_these digits items bytes fits same read =
    let back = decodes_back bytes fits in
    let read' : decode_of (encode_lower bytes) ≡ Ok items = rw same at read in
    let both : Ok items ≡ Ok bytes = sym read' ∙ back in
    cc
