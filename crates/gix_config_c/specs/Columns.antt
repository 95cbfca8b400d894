-- Columns of a text.
use Rattle.std.specs.Prelude.{ℕ, ◌+◌, ◌==◌, not, List}
use Rattle.std.specs.List.{suffix_len}

-- the column, from 1, of what comes behind these bytes
abbrev pub column_behind : List ℕ → ℕ
column_behind before = suffix_len (λ b. not (b == 10)) before + 1
