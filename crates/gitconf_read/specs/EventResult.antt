-- What the parser returns for a text.
use Rattle.std.specs.Prelude.{◌≡◌, ◌⊎◌, ◌≤◌, ◌^◌, ℕ, List, length, take, drop}
use Rattle.gitconf_text.specs.Part.{Part}
use Rattle.gitconf_text.specs.Document.{IsText}
use Rattle.gitconf_text.specs.Stuck.{line_behind, IsStuck}
use Rattle.gitconf_read.specs.declared.reading.Fault.{Fault}
use Rattle.gitconf_read.specs.ParseError.{Refusal, unexpected_token, too_large_input, want_of_memory}

-- the refusal gives the fault's line and the data from the fault on, or memory ran out
abbrev pub IsRefusal : (input : List ℕ) → Fault → Refusal → Type 0
IsRefusal input f r = (r ≡ unexpected_token (line_behind (take f.at input)) f.expected (drop f.at input)) ⊎ (r ≡ want_of_memory)

-- A text is refused because it is too large, because it can't be read on at some place, or because memory ran out.
pub record IsRefused (input : List ℕ) (r : Refusal) : Type 0 where
  pub cause : (r.number ≡ 1) ⊎ (r.number ≡ 2) ⊎ (r.number ≡ 27)
  pub stuck : r.number ≡ 1 → IsStuck input r.line r.data r.kind
  pub undocumented : r.number ≡ 1 → (parts : List Part) → IsText input parts → ⊥
  pub large : r.number ≡ 2 → 2 ^ 32 ≤ length input
  pub small : 2 ^ 32 ≤ length input → r ≡ too_large_input (length input)
  pub memory : r.number ≡ 27 → r ≡ want_of_memory
