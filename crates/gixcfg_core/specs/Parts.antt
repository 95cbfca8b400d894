-- Texts cut into parts.
use Rattle.std.specs.Prelude.{◌==◌, ℕ, Bool, List, [], Option, Some, None}
use Rattle.std.specs.List.{list_any, slice_split}

-- a byte is one of these
unfoldable pub is_one_of : List ℕ → ℕ → Bool
is_one_of bytes b = list_any (λ c. b == c) bytes

-- the parts of a text, between each two of which is one byte of these
unfoldable pub parts_of : (between text : List ℕ) → List (List ℕ)
parts_of between text = slice_split (is_one_of between) text

-- the parts of what is left of a text
abbrev pub parts_left : (between : List ℕ) → Option (List ℕ) → List (List ℕ)
parts_left between None = []
parts_left between (Some rest) = parts_of between rest
