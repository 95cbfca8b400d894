-- Words for the front and the end of a text.
use Rattle.std.specs.Prelude.{ℕ, Bool, true, false, List, [], ◌∷◌, ◌==◌, ◌&&◌, ◌||◌}
use Rattle.std.specs.List.{fold}

-- the first byte passes the test
abbrev pub begins : (ℕ → Bool) → List ℕ → Bool
begins test [] = false
begins test (b ∷ rest) = test b

-- the last byte passes the test
abbrev pub ends : (ℕ → Bool) → List ℕ → Bool
ends test text = fold (λ _ b. test b) false text

-- LF is at the front, or CR and LF
abbrev pub begins_line_end : List ℕ → Bool
begins_line_end [] = false
begins_line_end (b ∷ rest) = b == 10 || b == 13 && begins (λ c. c == 10) rest

-- a run of line endings: each byte is LF, or CR before LF
abbrev pub are_line_ends : List ℕ → Bool
are_line_ends [] = true
are_line_ends (b ∷ rest) = begins_line_end (b ∷ rest) && are_line_ends rest

-- one line ending: LF, or CR and LF
abbrev pub is_line_end : List ℕ → Bool
is_line_end [] = false
is_line_end (b ∷ []) = b == 10
is_line_end (b ∷ c ∷ []) = b == 13 && c == 10
is_line_end (b ∷ c ∷ d ∷ rest) = false
