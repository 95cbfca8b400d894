-- The line of a place in a text, what of it stands before the place and from there on, and what is shown under it.
use Rattle.std.specs.Prelude.{◌≡◌, ℕ, ◌+◌, ◌-◌, Bool, false, not, ◌&&◌, ◌==◌, nat_eq, nat_lt, List, [], ◌∷◌, length, take, drop, map, slice_index, replicate, unwrap_or, if◌then◌else◌, string_bytes}
use Rattle.std.specs.List.{count_by, starts_with, flat_map, list_any}
use Rattle.std.specs.Str.{encode_utf8_all}
use Rattle.bstr.specs.Utf8.{lossy_chars}
use Rattle.unicode_width.specs.Width.{char_width}
use Rattle.gixcfg_words.specs.Shown.{steers}
use Rattle.gixcfg_core.specs.declared.place.Place.{Place}

-- the byte ends a line
abbrev pub is_feed : ℕ → Bool
is_feed b = b == 10

-- what stands after the last line feed of a text, or all of it where there is none
abbrev pub last_line : List ℕ → List ℕ
last_line [] = []
last_line (b ∷ bs) = if list_any is_feed bs then last_line bs else if is_feed b then bs else b ∷ bs

-- what stands before the first byte of a text that ends it, or all of it where there is none
abbrev pub up_to : (ends : ℕ → Bool) → List ℕ → List ℕ
up_to ends [] = []
up_to ends (b ∷ bs) = if ends b then [] else b ∷ up_to ends bs

-- what stands before the first line feed of a text, or all of it where there is none
abbrev pub first_line : List ℕ → List ℕ
first_line = up_to is_feed

-- a line without the carriage return at its end, where that isn't all of it
abbrev pub without_return : List ℕ → List ℕ
without_return line =
    if nat_lt 1 (length line) && (slice_index line (length line - 1) == 13) then take (length line - 1) line else line

-- a text up to its first line ending: a line feed, with or without a carriage return before it
abbrev pub line_from : List ℕ → List ℕ
line_from text = if list_any is_feed text then without_return (first_line text) else text

-- the mark of UTF-8
abbrev pub mark : List ℕ
mark = 0xEF ∷ 0xBB ∷ 0xBF ∷ []

-- a text without the mark at its start
abbrev pub without_mark : List ℕ → List ℕ
without_mark text = if starts_with nat_eq text mark then drop 3 text else text

-- the line up to the place after which so many bytes are left
abbrev pub line_before : (text : List ℕ) (left : ℕ) → List ℕ
line_before text left = last_line (without_mark (take (length text - left) text))

-- the line from that place on
abbrev pub line_behind : (text : List ℕ) (left : ℕ) → List ℕ
line_behind text left = line_from (drop (length text - left) text)

-- how many bytes of a line are shown at most up to a place
abbrev pub most_before : ℕ
most_before = 100

-- how many of them are shown at most from the place on
abbrev pub most_behind : ℕ
most_behind = 200

-- the characters of the line up to that place, as many as are shown
abbrev pub shown_before : (text : List ℕ) (left : ℕ) → List ℕ
shown_before text left = lossy_chars (drop (length (line_before text left) - most_before) (line_before text left))

-- the characters of the line from that place on, as many as are shown
abbrev pub shown_behind : (text : List ℕ) (left : ℕ) → List ℕ
shown_behind text left = lossy_chars (take most_behind (line_behind text left))

-- more of the line stands before what is shown
abbrev pub is_cut_before : (text : List ℕ) (left : ℕ) → Bool
is_cut_before text left = nat_lt most_before (length (line_before text left))

-- more of the line stands behind it
abbrev pub is_cut_behind : (text : List ℕ) (left : ℕ) → Bool
is_cut_behind text left = nat_lt most_behind (length (line_behind text left))

-- a character as it is shown: what would steer a terminal, but for a tab, is U+FFFD
abbrev pub shown_char : ℕ → ℕ
shown_char c = if steers c && not (c == 9) then 0xFFFD else c

-- what is as wide as a character that is shown: a tab under a tab, else blanks
abbrev pub under_char : ℕ → List ℕ
under_char c = if c == 9 then 9 ∷ [] else replicate (unwrap_or (char_width false c) 0) 32

-- the bytes of characters as they are shown
abbrev pub shown : List ℕ → List ℕ
shown cs = encode_utf8_all (map shown_char cs)

-- what is as wide as these characters are when they are shown
abbrev pub under : List ℕ → List ℕ
under cs = flat_map under_char (map shown_char cs)

-- the number of the line in which that place is
abbrev pub line_at : (text : List ℕ) (left : ℕ) → ℕ
line_at text left = count_by is_feed (take (length text - left) text) + 1

-- the place in a text after which so many bytes are left: its column is one more than the number of characters before it
pub record IsPlaceOf (text : List ℕ) (left : ℕ) (place : Place) : Type 0 where
  pub line : place.line ≡ line_at text left
  pub column : place.column ≡ length (lossy_chars (line_before text left)) + 1
  pub cut_before : place.is_cut_before ≡ is_cut_before text left
  pub cut_behind : place.is_cut_behind ≡ is_cut_behind text left
  pub before : string_bytes place.before ≡ shown (shown_before text left)
  pub behind : string_bytes place.behind ≡ shown (shown_behind text left)
  pub under : string_bytes place.under ≡ under (shown_before text left)
