-- Numbers by their digits.
use Rattle.std.proofs.Common.{◌≡◌, ℕ, ◌+◌, ◌*◌, ◌<◌, ◌≤◌, List, [], ◌∷◌, length, drop, get_or, arith}
use Rattle.std.specs.Char.{digit_value}
use Rattle.std.specs.Str.Parse.{digits_value_after}
use Rattle.std.proofs.lemmas.List.{at_drop_more}
use Rattle.std.proofs.Math.Nat.{le-mul_of_pos_right}

one_more : (base n d : ℕ) → 2 ≤ base → n ≤ n * base + d
one_more base n d low = let some : 0 < base = omega arith in let h = le-mul_of_pos_right {m = base} n some in omega (arith, h)

-- a number that digits follow doesn't get smaller
digits_value_after-above : (base n : ℕ) (digits : List ℕ) → 2 ≤ base → n ≤ digits_value_after base n digits
digits_value_after-above base n [] low = omega arith
digits_value_after-above base n (d ∷ digits) low =
    let first = one_more base n (digit_value d) low in
    let later = digits_value_after-above base (n * base + digit_value d) digits low in
    omega (arith, first, later)

-- digits write no less than a number and the digit after it do
pub all_above : (base n k all most : ℕ) (digits : List ℕ) → 2 ≤ base → k < length digits → digits_value_after base n (drop k digits) ≡ all
    → most ≤ n * base + digit_value (get_or digits k 0) → most ≤ all
all_above base n k all most digits low within is past =
    let step = at_drop_more (digits_value_after base n) digits k 0 within in
    let above = digits_value_after-above base (n * base + digit_value (get_or digits k 0)) (drop (k + 1) digits) low in
    omega (arith, past, above, step, is)
