-- Patterns of POSIX in the syntax of the kit's `regex`: what each character comes to, by what stands before it.
-- Source: POSIX, "Extended Regular Expressions", with what the GNU C library adds to it; the syntax of Rust's crate regex.
use Rattle.std.specs.Prelude.{ℕ, Bool, true, false, not, ◌==◌, ◌&&◌, ◌||◌, nat_le, List, [], ◌∷◌, ◌++◌, Option, Some, None, codes, if◌then◌else◌}
use Rattle.std.specs.Str.{encode_utf8_all}
use Rattle.gixcfg_core.specs.declared.posix.Place.{Place}
use Rattle.gixcfg_core.specs.declared.posix.Place.TheVariants.{Start, Item, Repetition, Backslash, Brace, Count, Bracket, Negated, Apart, Member, Dash, Nested, Class, ClassName, ClassEnd, Wrong}

-- `*`, `+`, `?`, `{`
abbrev pub is_repeating : ℕ → Bool
is_repeating c = c == 42 || c == 43 || c == 63 || c == 123

-- a character that isn't in brackets
abbrev pub behind : ℕ → Place
behind c =
    if c == 92 then Backslash
    else if c == 91 then Bracket
    else if c == 40 || c == 124 || c == 94 || c == 36 then Start
    else if c == 42 || c == 43 || c == 63 then Repetition
    else if c == 123 then Brace
    else Item

-- one after a backslash: b, B, <, >, ` and ' are anchors; a digit would name a group
abbrev pub behind_escape : ℕ → Place
behind_escape c =
    if c == 98 || c == 66 || c == 60 || c == 62 || c == 96 || c == 39 then Start
    else if nat_le 49 c && nat_le c 57 then Wrong
    else Item

-- one of a count: digits and commas
abbrev pub behind_count : ℕ → Place
behind_count c = if c == 125 then Repetition else if (nat_le 48 c && nat_le c 57) || c == 44 then Count else Wrong

-- the first one in brackets, where `]` is itself
abbrev pub behind_first : ℕ → Place
behind_first c = if c == 91 then Nested else Member

-- another one in brackets
abbrev pub in_brackets : ℕ → (other : Place) → Place
in_brackets c other = if c == 93 then Item else if c == 91 then Nested else other

abbrev pub member_or_dash : ℕ → Place
member_or_dash c = if c == 45 then Dash else Member

-- one after `[` in brackets: `:` begins a class, `.` and `=` a collating element
abbrev pub behind_nested : ℕ → Place
behind_nested c = if c == 58 then Class else if c == 46 || c == 61 then Wrong else in_brackets c (member_or_dash c)

-- the place behind a character at a place
abbrev pub next : Place → ℕ → Place
next Start c = if is_repeating c then Wrong else behind c
next Item c = behind c
next Repetition c = behind c
next Backslash c = behind_escape c
next Brace c = behind_count c
next Count c = behind_count c
next Bracket c = if c == 94 then Negated else behind_first c
next Negated c = behind_first c
next Apart c = in_brackets c Member
next Member c = in_brackets c (member_or_dash c)
next Dash c = in_brackets c Apart
next Nested c = behind_nested c
next Class c = if c == 58 then ClassEnd else ClassName
next ClassName c = if c == 58 then ClassEnd else ClassName
next ClassEnd c = if c == 93 then Apart else ClassName
next Wrong c = Wrong

-- a pattern may end there
abbrev pub is_end : Place → Bool
is_end Start = true
is_end Item = true
is_end Repetition = true
is_end Backslash = false
is_end Brace = false
is_end Count = false
is_end Bracket = false
is_end Negated = false
is_end Apart = false
is_end Member = false
is_end Dash = false
is_end Nested = false
is_end Class = false
is_end ClassName = false
is_end ClassEnd = false
is_end Wrong = false

-- a backslash, or nothing
abbrev pub escape_if : Bool → List ℕ
escape_if is = if is then 92 ∷ [] else []

-- `\`, `&` and `~`, which mean something in brackets of the kit's alone
abbrev pub is_special : ℕ → Bool
is_special c = c == 92 || c == 38 || c == 126

abbrev pub front_of_repetition : ℕ → List ℕ
front_of_repetition c = if c == 63 then codes "{0,1}" else if c == 125 then 92 ∷ [] else []

-- what means something outside of brackets
abbrev pub is_mark : ℕ → Bool
is_mark c =
    c == 92 || c == 46 || c == 91 || c == 93 || c == 40 || c == 41 || c == 124 || c == 94 || c == 36 || c == 42 || c == 43 || c == 63 || c == 123 || c == 125

-- that, and w, W, s, S, b, B, < and >
abbrev pub is_escaped : ℕ → Bool
is_escaped c = is_mark c || (c == 119 || c == 87 || c == 115 || c == 83 || c == 98 || c == 66 || c == 60 || c == 62)

abbrev pub front_of_escape : ℕ → List ℕ
front_of_escape c = if c == 96 then codes "\\A" else if c == 39 then codes "\\z" else escape_if (is_escaped c)

abbrev pub front_of_nested : ℕ → List ℕ
front_of_nested c =
    if c == 58 then []
    else if c == 92 || c == 38 || c == 126 || c == 94 then 92 ∷ 91 ∷ 92 ∷ []
    else 92 ∷ 91 ∷ []

-- the letters beyond ASCII of alpha and alnum, lower, space and upper
abbrev pub front_of_class : ℕ → List ℕ
front_of_class c =
    if c == 97 then codes "\\p{Alphabetic}[\\p{Nd}--0-9][:"
    else if c == 108 then codes "\\p{Lowercase}[:"
    else if c == 115 then codes "[\\p{White_Space}--\\x85\\xA0\\u2007\\u202F][:"
    else if c == 117 then codes "\\p{Uppercase}[:"
    else codes "[:"

-- what is put before a character at a place, or in its stead
abbrev pub front : Place → ℕ → List ℕ
front Start c = escape_if (c == 125)
front Item c = escape_if (c == 125)
front Repetition c = front_of_repetition c
front Backslash c = front_of_escape c
front Brace c = if c == 44 then codes "0" else []
front Count c = []
front Bracket c = escape_if (c == 93 || c == 45 || is_special c)
front Negated c = escape_if (c == 93 || c == 45 || c == 94 || is_special c)
front Apart c = escape_if (c == 45 || c == 94 || is_special c)
front Dash c = escape_if (c == 45 || c == 94 || is_special c)
front Member c = escape_if (c == 94 || is_special c)
front Nested c = front_of_nested c
front Class c = front_of_class c
front ClassName c = []
front ClassEnd c = []
front Wrong c = []

-- a character is put itself
abbrev pub stays : Place → ℕ → Bool
stays Start c = not (c == 92)
stays Item c = not (c == 92)
stays Repetition c = not (c == 92) && not (c == 63)
stays Backslash c = not (c == 96) && not (c == 39)
stays Brace c = true
stays Count c = true
stays Bracket c = not (c == 91)
stays Negated c = not (c == 91)
stays Apart c = not (c == 91)
stays Member c = not (c == 91)
stays Dash c = not (c == 91)
stays Nested c = not (c == 91) && not (c == 58)
stays Class c = true
stays ClassName c = true
stays ClassEnd c = true
stays Wrong c = true

-- what a character at a place comes to
abbrev pub told : Place → ℕ → List ℕ
told place c = front place c ++ (if stays place c then encode_utf8_all (c ∷ []) else [])

-- what characters from a place on come to
abbrev pub spelled : Place → List ℕ → List ℕ
spelled place [] = []
spelled place (c ∷ cs) = told place c ++ spelled (next place c) cs

-- the place behind them
abbrev pub last_place : Place → List ℕ → Place
last_place place [] = place
last_place place (c ∷ cs) = last_place (next place c) cs

-- A pattern by its characters, with a dot that stands for a line feed too; or there is none.
abbrev pub translated : List ℕ → Option (List ℕ)
translated pattern = if is_end (last_place Start pattern) then Some (codes "(?s)" ++ spelled Start pattern) else None
