-- Classes of bytes, and bytes without ASCII case.
-- The ASCII classes are std's: a letter is A to Z or a to z, and white space is space, tab, LF, FF and CR.
use Rattle.std.specs.Prelude.{ℕ, Bool, List, ◌==◌, ◌||◌, map}
use Rattle.std.specs.Char.{is_ascii_alphanumeric, is_ascii_whitespace, to_ascii_lowercase}

-- space or tab
abbrev pub is_blank : ℕ → Bool
is_blank b = b == 32 || b == 9

-- space, tab, LF, FF or CR
abbrev pub is_whitespace : ℕ → Bool
is_whitespace b = is_ascii_whitespace b

-- a letter, a digit or a dash
abbrev pub is_name_byte : ℕ → Bool
is_name_byte b = is_ascii_alphanumeric b || b == 45

-- a name byte or a dot
abbrev pub is_header_byte : ℕ → Bool
is_header_byte b = is_name_byte b || b == 46

-- letters in lower case, all else as it is
abbrev pub fold : List ℕ → List ℕ
fold bytes = map to_ascii_lowercase bytes
