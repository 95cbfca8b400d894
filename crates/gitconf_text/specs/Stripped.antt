-- Quotes around a whole value, which can be removed without a copy.
use Rattle.std.specs.Prelude.{ℕ, zero, suc, ◌-◌, Bool, not, List, ◌==◌, ◌&&◌, ◌||◌, if◌then◌else◌, length, nat_le, slice_range}
use Rattle.std.specs.List.{list_any}
use Rattle.gitconf_text.specs.Text.{begins, ends}

-- all bytes but the first and the last
abbrev pub inner : List ℕ → List ℕ
inner text = slice_range text 1 (length text - 1)

-- two bytes or more, the first and the last are `"`, and the last doesn't follow a backslash
abbrev pub is_enclosed : List ℕ → Bool
is_enclosed text =
    nat_le 2 (length text) && begins (λ b. b == 34) text && ends (λ b. b == 34) text && not (ends (λ b. b == 92) (inner text))

-- what is left when enclosing quotes are removed at most that many times
abbrev pub stripped_times : ℕ → List ℕ → List ℕ
stripped_times zero text = text
stripped_times (suc n) text = if is_enclosed text then stripped_times n (inner text) else text

-- the text without its enclosing quotes, removed as long as there are some, which is no more often than the text has bytes
abbrev pub stripped : List ℕ → List ℕ
stripped text = stripped_times (length text) text

-- a quote or a backslash, which do not stand for themselves in a value
abbrev pub is_coded : ℕ → Bool
is_coded b = b == 34 || b == 92

-- stripping leaves a quote or a backslash; where it leaves none, what is left is the meaning
abbrev pub needs_decoding : List ℕ → Bool
needs_decoding raw = list_any is_coded (stripped raw)
