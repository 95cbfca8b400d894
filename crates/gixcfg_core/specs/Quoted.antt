-- Names of files as git shows them: in quotes, where they have bytes that a line doesn't show as they are.
-- Source: `quote_c_style` of git 2.47, by what `git config --show-origin` prints.
use Rattle.std.specs.Prelude.{ℕ, ◌+◌, ◌/◌, ◌%◌, Bool, ◌==◌, ◌&&◌, ltb, not, if◌then◌else◌, List, [], ◌∷◌, ◌++◌, flat_map, Option, Some, None}
use Rattle.std.specs.List.{list_all}

-- the letter or mark that a byte is written as behind a backslash, for those that have one: `\a`, `\b`, `\t`, `\n`, `\v`, `\f`, `\r`, `\"`, `\\`
abbrev pub letter_of : ℕ → Option ℕ
letter_of b =
    if b == 7 then Some 97
    else if b == 8 then Some 98
    else if b == 9 then Some 116
    else if b == 10 then Some 110
    else if b == 11 then Some 118
    else if b == 12 then Some 102
    else if b == 13 then Some 114
    else if b == 34 then Some 34
    else if b == 92 then Some 92
    else None

-- a byte is shown as it is: a printable one of ASCII, but for a quote and a backslash
abbrev pub is_plain : ℕ → Bool
is_plain b = ltb 31 b && ltb b 127 && not (b == 34) && not (b == 92)

-- a byte in three octal digits
abbrev pub octal : ℕ → List ℕ
octal b = (48 + b / 64) ∷ (48 + b / 8 % 8) ∷ (48 + b % 8) ∷ []

-- what stands for a byte behind a backslash: its letter, if it has one, else its digits
abbrev pub escape : (letter : Option ℕ) (b : ℕ) → List ℕ
escape (Some letter) b = letter ∷ []
escape None b = octal b

-- a byte between quotes
abbrev pub quoted_byte : ℕ → List ℕ
quoted_byte b = if is_plain b then b ∷ [] else 92 ∷ escape (letter_of b) b

-- a name as it is, or in quotes if that doesn't show it
abbrev pub quoted : (name : List ℕ) → List ℕ
quoted name = if list_all is_plain name then name else 34 ∷ (flat_map quoted_byte name ++ 34 ∷ [])
