-- Worked rows: which values are booleans and integers, and which.
use Rattle.std.proofs.Common.{◌≡◌, ℕ, List, [], ◌∷◌, Some, None, true, false, map, refl, codes}
use Rattle.std.specs.Prelude.{ℤ, pos, neg_ℤ, Ok, Err, replicate}
use Rattle.gitconf_text.specs.Typed.{boolean_of, integer_of, NotAnInteger, IntegerOverflow}

-- values that are true
abbrev true_values : List (List ℕ)
true_values =
    codes "yes" ∷
    codes "ON" ∷
    codes "True" ∷
    codes "1" ∷
    codes "+5" ∷
    codes "-1" ∷
    codes "9223372036854775807" ∷
    codes "-9223372036854775808" ∷
    []

pub are_true : map boolean_of true_values ≡ replicate 8 (Some true)
are_true = refl

-- values that are false
abbrev false_values : List (List ℕ)
false_values =
    codes "no" ∷
    codes "oFF" ∷
    codes "false" ∷
    codes "0" ∷
    [] ∷
    codes "+0" ∷
    codes "00" ∷
    codes "-0" ∷
    []

pub are_false : map boolean_of false_values ≡ replicate 8 (Some false)
are_false = refl

-- values that are no booleans
abbrev no_booleans : List (List ℕ)
no_booleans =
    codes "9223372036854775808" ∷
    codes "+" ∷
    codes "-" ∷
    codes "1 " ∷
    codes " 1" ∷
    codes "0x1" ∷
    codes "y" ∷
    codes "t" ∷
    (255 ∷ []) ∷
    codes "1.0" ∷
    codes "+-1" ∷
    codes "yes\n" ∷
    codes "1k" ∷
    codes "1111111111111111111111111111111111111111111111111111111111111111111111111111111111111111111111111111" ∷
    []

pub are_no_booleans : map boolean_of no_booleans ≡ replicate 14 None
are_no_booleans = refl

-- integers as they are written, and what they are
abbrev integers : List (List ℕ × ℤ)
integers =
    (codes "8G", pos 8589934592) ∷
    (codes "1", pos 1) ∷
    (codes "+1", pos 1) ∷
    (codes "-1", neg_ℤ (pos 1)) ∷
    (codes "007", pos 7) ∷
    (codes "1k", pos 1024) ∷
    (codes "1K", pos 1024) ∷
    (codes "1m", pos 1048576) ∷
    (codes "1M", pos 1048576) ∷
    (codes "1g", pos 1073741824) ∷
    (codes "1G", pos 1073741824) ∷
    (codes "-1g", neg_ℤ (pos 1073741824)) ∷
    (codes "9223372036854775807", pos 9223372036854775807) ∷
    (codes "-9223372036854775808", neg_ℤ (pos 9223372036854775808)) ∷
    (codes "-9007199254740992k", neg_ℤ (pos 9223372036854775808)) ∷
    (codes "0k", pos 0) ∷
    (codes "-8589934592g", neg_ℤ (pos 9223372036854775808)) ∷
    (codes "-0", pos 0) ∷
    []

pub are_integers : map (λ row. integer_of row.0) integers ≡ map (λ row. Ok row.1) integers
are_integers = refl

-- values that are no integers
abbrev no_integers : List (List ℕ)
no_integers =
    codes "9223372036854775808" ∷
    codes "9223372036854775808k" ∷
    codes "1t" ∷
    codes "k" ∷
    codes "+k" ∷
    codes "-" ∷
    [] ∷
    codes "1kk" ∷
    codes "1 k" ∷
    (49 ∷ 195 ∷ 164 ∷ []) ∷
    (255 ∷ []) ∷
    codes "0x10" ∷
    codes "1111111111111111111111111111111111111111111111111111111111111111111111111111111111111111111111111111" ∷
    []

pub are_no_integers : map integer_of no_integers ≡ replicate 13 (Err NotAnInteger)
are_no_integers = refl

-- integers that 64 bits do not hold with their suffix
abbrev too_large : List (List ℕ)
too_large =
    codes "9223372036854775807k" ∷
    codes "9007199254740992k" ∷
    codes "8589934592g" ∷
    []

pub are_too_large : map integer_of too_large ≡ replicate 3 (Err IntegerOverflow)
are_too_large = refl
