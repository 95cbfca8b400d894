-- Values as booleans and as integers.
-- Source: the git-config manual; that a number in digits is a boolean, and which numbers fit, are this project's own.
use Rattle.std.specs.Prelude.{ℕ, ℤ, pos, neg_ℤ, nat_abs, int_le, int_lt, ◌*ℤ◌, ◌-◌, Bool, true, false, not, List, [], ◌∷◌, ◌&&◌, ◌==◌, Option, Some, None, Result, Ok, Err, length, take, drop, if◌then◌else◌, codes}
use Rattle.std.specs.Char.{is_ascii_digit}
use Rattle.std.specs.List.{list_all, list_any}
use Rattle.std.specs.Option.{option_map}
use Rattle.std.specs.Str.Parse.{signed_digits_value, without_leading_sign}
use Rattle.gitconf_text.specs.Text.{begins}
use Rattle.gitconf_text.specs.Names.{is_same_name}

-- whether 64 bits hold the number with its sign
abbrev pub fits : ℤ → Bool
fits n = int_le (neg_ℤ (pos 9223372036854775808)) n && int_lt n (pos 9223372036854775808)

-- one or more digits, and nothing else
abbrev pub is_numeral : List ℕ → Bool
is_numeral bytes = begins is_ascii_digit bytes && list_all is_ascii_digit bytes

-- the number that an optional sign and digits write, where it fits
abbrev pub number_of : List ℕ → Option ℤ
number_of bytes = if is_numeral (without_leading_sign bytes) && fits (signed_digits_value 10 bytes) then Some (signed_digits_value 10 bytes) else None

-- the boolean of a value, if it is one: a word without case, nothing, or a number that is not 0
abbrev pub boolean_of : List ℕ → Option Bool
boolean_of bytes =
    if list_any (is_same_name bytes) (codes "yes" ∷ codes "on" ∷ codes "true" ∷ []) then Some true
    else if list_any (is_same_name bytes) (codes "no" ∷ codes "off" ∷ codes "false" ∷ [] ∷ []) then Some false
    else option_map (λ n. not (nat_abs n == 0)) (number_of bytes)

-- what a suffix multiplies by
pub data Suffix : Type 0 where
  Kibi : Suffix
  Mebi : Suffix
  Gibi : Suffix

-- the suffix that bytes are: `k`, `m` or `g` in either case; none for other bytes
abbrev pub suffix_of : List ℕ → Option Suffix
suffix_of bytes =
    if is_same_name bytes (codes "k") then Some Kibi
    else if is_same_name bytes (codes "m") then Some Mebi
    else if is_same_name bytes (codes "g") then Some Gibi
    else None

-- the factor of a suffix: 1024, its square or its cube, and 1 without a suffix
abbrev pub factor_of : Option Suffix → ℤ
factor_of None = pos 1
factor_of (Some Kibi) = pos 1024
factor_of (Some Mebi) = pos 1048576
factor_of (Some Gibi) = pos 1073741824

-- a number as it is written, and the suffix after it
pub record Integer : Type 0 where
  pub number : ℤ
  pub suffix : Option Suffix

-- the integer that a value writes, if it is one; with its suffix it may be too large
abbrev pub integer_written : List ℕ → Option Integer
integer_written bytes = elim (suffix_of (drop (length bytes - 1) bytes)) [
  | None ↦ option_map (λ n. record { number = n; suffix = None }) (number_of bytes)
  | Some s ↦ option_map (λ n. record { number = n; suffix = Some s }) (number_of (take (length bytes - 1) bytes))
]

-- why a value has no integer
pub data IntegerFault : Type 0 where
  NotAnInteger : IntegerFault
  IntegerOverflow : IntegerFault

-- the integer of a value: the number times its suffix, where it fits
abbrev pub decimal_of : Integer → Option ℤ
decimal_of i = if fits (i.number *ℤ factor_of i.suffix) then Some (i.number *ℤ factor_of i.suffix) else None

-- the integer that a value means, or why it has none: it isn't written as one, or 64 bits with a sign don't hold it
abbrev pub integer_of : List ℕ → Result ℤ IntegerFault
integer_of bytes = elim (integer_written bytes) [
  | None ↦ Err NotAnInteger
  | Some i ↦ elim (decimal_of i) [ None ↦ Err IntegerOverflow | Some n ↦ Ok n ]
]
