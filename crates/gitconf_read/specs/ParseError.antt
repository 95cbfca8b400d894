-- How a text is refused: what a `parse::Error` shows.
use Rattle.std.specs.Prelude.{ℕ, Bool, List, [], codes, nat_eq}
use Rattle.std.specs.Str.{bytes_eq}
use Rattle.std.specs.Ordering.{on, eq_of_both}
use Rattle.gitconf_read.specs.declared.reading.Expected.{Expected}
use Rattle.gitconf_read.specs.declared.reading.Expected.TheVariants as expected

-- the refusal's number, the line, what was looked for, the data from there on, and the input's length if that is the fault
pub record Refusal : Type 0 where
  pub number : ℕ
  pub line : ℕ
  pub kind : List ℕ
  pub «data» : List ℕ
  pub size : ℕ

-- what was looked for, in words
abbrev pub kind_of : Expected → List ℕ
kind_of expected.SectionHeader = codes "section header"
kind_of expected.Name = codes "name"
kind_of expected.Value = codes "value"

-- no token begins here that the parser knows
abbrev pub unexpected_token : (line : ℕ) → Expected → (bytes : List ℕ) → Refusal
unexpected_token line wanted bytes = record { number = 1; line = line; kind = kind_of wanted; «data» = bytes; size = 0 }

-- the input has too many bytes
abbrev pub too_large_input : (size : ℕ) → Refusal
too_large_input size = record { number = 2; line = 1; kind = []; «data» = []; size = size }

-- a growth was refused
abbrev pub want_of_memory : Refusal
want_of_memory = record { number = 27; line = 1; kind = []; «data» = []; size = 0 }

-- equal refusals: all that they show is equal
abbrev pub is_same_refusal : Refusal → Refusal → Bool
is_same_refusal =
    eq_of_both (on (λ r. r.number) nat_eq)
    (eq_of_both (on (λ r. r.line) nat_eq)
    (eq_of_both (on (λ r. r.kind) bytes_eq) (eq_of_both (on (λ r. r.data) bytes_eq) (on (λ r. r.size) nat_eq))))
