-- Colors: which texts are one, and how terminals are told it.
-- Source: the manual page of `git-config`, "Values", and what `git config --type=color` of 2.47 prints.
use Rattle.std.specs.Prelude.{ℕ, ◌+◌, ◌==◌, ◌&&◌, ◌||◌, Bool, false, not, leb, ltb, if◌then◌else◌, List, [], ◌∷◌, ◌++◌, length, take, drop, Option, Some, None, slice_index, codes}
use Rattle.std.specs.Char.{digit_value}
use Rattle.std.specs.Fmt.{decimal}
use Rattle.std.specs.List.{sum_by, list_all, list_any}
use Rattle.std.specs.Option.{is_some, unwrap_or}
use Rattle.std.specs.Str.{bytes_eq}
use Rattle.std.specs.Str.Parse.{digits_value, starts_with_minus, without_leading_sign}
use Rattle.gitconf_text.specs.Names.{is_same_name}
use Rattle.gixcfg_core.specs.Numbers.{after_blanks, digits_len}
use Rattle.gixcfg_core.specs.Parts.{parts_of}
use Rattle.gixcfg_core.specs.declared.colors.Color.{Color}
use Rattle.gixcfg_core.specs.declared.colors.Color.TheVariants.{Normal, Named, Palette, Mixed}
use Rattle.gixcfg_core.specs.declared.colors.Style.{Style}

-- a number with a `;` before it
abbrev pub code : ℕ → List ℕ
code n = 59 ∷ decimal n

-- a number with a `;` before it, and what follows
abbrev pub code_then : ℕ → List ℕ → List ℕ
code_then n rest = 59 ∷ (decimal n ++ rest)

-- the numbers of a color, which are larger by so much if it is behind text: 5 says that it is one of 256, 2 that it is mixed
abbrev pub color_codes : (more : ℕ) → Option Color → List ℕ
color_codes more None = []
color_codes more (Some Normal) = []
color_codes more (Some (Named n)) = code (n + more)
color_codes more (Some (Palette place)) = code_then (38 + more) (59 ∷ 53 ∷ code place)
color_codes more (Some (Mixed red green blue)) = code_then (38 + more) (59 ∷ 50 ∷ code_then red (code_then green (code blue)))

-- the numbers of the attributes that are on, the first of which has this number
abbrev pub attribute_codes : (first : ℕ) → List Bool → List ℕ
attribute_codes first [] = []
attribute_codes first (is_on ∷ rest) = (if is_on then code first else []) ++ attribute_codes (first + 1) rest

-- the numbers of a style: its attributes, the color of text, the one behind it
abbrev pub style_codes : Style → List ℕ
style_codes style = attribute_codes 0 style.attributes ++ color_codes 0 style.foreground ++ color_codes 10 style.background

-- numbers between ESC `[` and `m`
abbrev pub enclosed : List ℕ → List ℕ
enclosed codes = 27 ∷ 91 ∷ (codes ++ 109 ∷ [])

-- numbers without the `;` before the first, or nothing if there are none
abbrev pub without_first : List ℕ → List ℕ
without_first [] = []
without_first (b ∷ codes) = enclosed codes

-- the sequence of a style; one that takes all back has an empty number first
abbrev pub sequence : Style → List ℕ
sequence style = if style.has_reset then enclosed (style_codes style) else without_first (style_codes style)

-- the names of the colors of terminals, and of attributes
abbrev pub color_names : List (List ℕ)
color_names = codes "black" ∷ codes "red" ∷ codes "green" ∷ codes "yellow" ∷ codes "blue" ∷ codes "magenta" ∷ codes "cyan" ∷ codes "white" ∷ []

abbrev pub attribute_names : List (List ℕ)
attribute_names = codes "bold" ∷ codes "dim" ∷ codes "italic" ∷ codes "ul" ∷ codes "blink" ∷ codes "reverse" ∷ codes "strike" ∷ []

-- a word is one of these names, without case
unfoldable pub is_one_of : List (List ℕ) → (word : List ℕ) → Bool
is_one_of [] word = false
is_one_of (name ∷ names) word = is_same_name name word || is_one_of names word

-- a word names a color of terminals; `bright` may come before its name
abbrev pub is_named : List ℕ → Bool
is_named word = is_one_of color_names (if is_same_name (take 6 word) (codes "bright") then drop 6 word else word)

unfoldable pub is_hexadecimal : ℕ → Bool
is_hexadecimal b = ltb (digit_value b) 16

-- the byte at a place is a hexadecimal digit
abbrev pub is_hexadecimal_at : ℕ → List ℕ → Bool
is_hexadecimal_at k digits = is_hexadecimal (slice_index digits k)

-- three or six hexadecimal digits, for red, green and blue
abbrev pub are_of_three : List ℕ → Bool
are_of_three digits =
    let are_three = is_hexadecimal_at 0 digits && is_hexadecimal_at 1 digits && is_hexadecimal_at 2 digits in
    let are_three_more = is_hexadecimal_at 3 digits && is_hexadecimal_at 4 digits && is_hexadecimal_at 5 digits in
    (length digits == 3 && are_three) || (length digits == 6 && are_three && are_three_more)

-- a word has such digits behind `#`
abbrev pub is_mixed : List ℕ → Bool
is_mixed [] = false
is_mixed (b ∷ digits) = b == 35 && are_of_three digits

-- a word is a decimal number from -1 to 255, as C reads it
abbrev pub is_numbered : List ℕ → Bool
is_numbered word =
    let text = after_blanks word in
    let digits = without_leading_sign text in
    ltb 0 (length digits) && digits_len 10 digits == length digits && leb (digits_value 10 digits) (if starts_with_minus text then 1 else 255)

-- a word asks for a color
unfoldable pub is_color_word : List ℕ → Bool
is_color_word word = is_same_name word (codes "normal") || is_same_name word (codes "default") || is_mixed word || is_named word || is_numbered word

-- what follows `no` or `no-`, if a word begins so
abbrev pub after_no : List ℕ → Option (List ℕ)
after_no word =
    if bytes_eq (take 3 word) (codes "no-") then Some (drop 3 word)
    else if bytes_eq (take 2 word) (codes "no") then Some (drop 2 word)
    else None

-- a word is the name of an attribute, in this very case
unfoldable pub is_attribute_name : List ℕ → Bool
is_attribute_name word = list_any (λ name. bytes_eq name word) attribute_names

-- a word asks for an attribute, or for its end
unfoldable pub is_attribute : List ℕ → Bool
is_attribute word = is_attribute_name (unwrap_or (after_no word) word)

unfoldable pub is_reset : List ℕ → Bool
is_reset word = is_same_name word (codes "reset")

-- what a word may be: empty, as between two spaces, or one that asks for something
abbrev pub is_word : List ℕ → Bool
is_word word = length word == 0 || is_reset word || is_color_word word || is_attribute word

-- how many of the two colors a word takes, that of text and the one behind it
abbrev pub color_count : List ℕ → ℕ
color_count word = if not (length word == 0) && not (is_reset word) && is_color_word word then 1 else 0

-- the words of a text: its parts between spaces, tabs, and ends of lines
abbrev pub words_in : List ℕ → List (List ℕ)
words_in text = parts_of (32 ∷ 9 ∷ 10 ∷ 13 ∷ []) text

-- a text is a color: words that ask for something, at most two of them for a color
abbrev pub is_color : List ℕ → Bool
is_color text = list_all is_word (words_in text) && leb (sum_by color_count (words_in text)) 2

-- how many colors a style has
abbrev pub colors_in : Style → ℕ
colors_in style = (if is_some style.foreground then 1 else 0) + (if is_some style.background then 1 else 0)

-- the color of text comes first
abbrev pub is_in_order : Style → Bool
is_in_order style = is_some style.foreground || not (is_some style.background)
