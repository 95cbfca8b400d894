-- Integers and booleans of values as git reads them.
-- Source: the manual page of `git-config`, "Values", and what `git config --type` of 2.47 does.
use Rattle.std.specs.Prelude.{ℕ, ◌+◌, ◌*◌, ℤ, pos, neg_ℤ, nat_abs, Bool, true, false, not, ◌==◌, ◌||◌, ◌&&◌, leb, ltb, if◌then◌else◌, List, [], ◌∷◌, Option, Some, None, length, position, take, drop, codes, unwrap_or}
use Rattle.std.specs.Char.{digit_value}
use Rattle.std.specs.List.{list_any}
use Rattle.std.specs.Option.{option_map, option_and_then, option_or}
use Rattle.std.specs.Str.Parse.{digits_value, starts_with_minus, without_leading_sign}
use Rattle.gitconf_text.specs.Names.{is_same_name}

-- what C takes as a blank: the space, and the controls from HT to CR
abbrev pub is_blank : ℕ → Bool
is_blank b = b == 32 || (leb 9 b && leb b 13)

abbrev pub is_no_blank : ℕ → Bool
is_no_blank b = not (is_blank b)

-- how many blanks a text begins with
abbrev pub blanks_len : List ℕ → ℕ
blanks_len text = unwrap_or (position is_no_blank text) (length text)

-- a text without the blanks at its front
abbrev pub after_blanks : List ℕ → List ℕ
after_blanks text = drop (blanks_len text) text

abbrev pub is_no_digit : (base b : ℕ) → Bool
is_no_digit base b = leb base (digit_value b)

-- how many digits of a base a text begins with
abbrev pub digits_len : (base : ℕ) (text : List ℕ) → ℕ
digits_len base text = unwrap_or (position (is_no_digit base) text) (length text)

-- what a unit multiplies by: nothing, or `k`, `m` or `g` in either case
abbrev pub factor_of : List ℕ → Option ℕ
factor_of [] = Some 1
factor_of (u ∷ []) =
    if u == 107 || u == 75 then Some 1024
    else if u == 109 || u == 77 then Some 1048576
    else if u == 103 || u == 71 then Some 1073741824
    else None
factor_of (u ∷ v ∷ rest) = None

-- the number that one or more digits of a base and a unit write
abbrev pub with_unit : (base : ℕ) (text : List ℕ) → Option ℕ
with_unit base text =
    let n = digits_len base text in
    if n == 0 then None else option_map (λ f. digits_value base (take n text) * f) (factor_of (drop n text))

-- `0x` comes first, in either case
abbrev pub begins_hexadecimal : List ℕ → Bool
begins_hexadecimal [] = false
begins_hexadecimal (a ∷ []) = false
begins_hexadecimal (a ∷ b ∷ rest) = a == 48 && (b == 120 || b == 88)

-- `0` comes first
abbrev pub begins_octal : List ℕ → Bool
begins_octal [] = false
begins_octal (a ∷ rest) = a == 48

-- the number that digits and a unit write: hexadecimal behind `0x`, octal if the first digit is 0, else decimal
abbrev pub unsigned : List ℕ → Option ℕ
unsigned text =
    if begins_hexadecimal text then with_unit 16 (drop 2 text)
    else if begins_octal text then with_unit 8 text
    else with_unit 10 text

-- the number, if it isn't more than the most
abbrev pub at_most : (most n : ℕ) → Option ℕ
at_most most n = if leb n most then Some n else None

-- the integer of a sign and a size
abbrev pub signed : (is_negative : Bool) (size : ℕ) → ℤ
signed is_negative size = if is_negative then neg_ℤ (pos size) else pos size

-- the integer that a text writes: blanks, a sign or none, and a number whose size is at most so much
abbrev pub integer_of : (most : ℕ) (text : List ℕ) → Option ℤ
integer_of most text =
    let t = after_blanks text in
    option_map (signed (starts_with_minus t)) (option_and_then (at_most most) (unsigned (without_leading_sign t)))

-- the boolean that a word names, without case
abbrev pub boolean_named : List ℕ → Option Bool
boolean_named text =
    if list_any (is_same_name text) (codes "true" ∷ codes "yes" ∷ codes "on" ∷ []) then Some true
    else if list_any (is_same_name text) (codes "false" ∷ codes "no" ∷ codes "off" ∷ [] ∷ []) then Some false
    else None

-- the boolean that a text writes: a word, or an integer of 32 bits, which is true if it isn't 0
abbrev pub boolean_of : List ℕ → Option Bool
boolean_of text = option_or (boolean_named text) (option_map (λ n. not (nat_abs n == 0)) (integer_of 2147483647 text))

-- the byte of two hexadecimal digits
abbrev pub byte_of : (high low : ℕ) → Option ℕ
byte_of high low = if ltb (digit_value high) 16 && ltb (digit_value low) 16 then Some (digit_value high * 16 + digit_value low) else None
