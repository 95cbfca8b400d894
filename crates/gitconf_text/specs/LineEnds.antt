-- Line endings as the code has them.
use Rattle.std.specs.Prelude.{ℕ, List, [], ◌∷◌, ◌==◌, if◌then◌else◌}
use Rattle.std.specs.List.{list_any}
use Rattle.gitconf_text.specs.declared.line_end.LineEnd.{LineEnd}
use Rattle.gitconf_text.specs.declared.line_end.LineEnd.TheVariants as kinds

-- the bytes of a line ending: LF, or CR and LF
abbrev pub bytes_of_line_end : LineEnd → List ℕ
bytes_of_line_end kinds.Lf = 10 ∷ []
bytes_of_line_end kinds.CrLf = 13 ∷ 10 ∷ []

-- the line ending of a newline: CR LF where it holds a CR, otherwise LF
abbrev pub line_end_in : (run : List ℕ) → List ℕ
line_end_in run = if list_any (λ b. b == 13) run then 13 ∷ 10 ∷ [] else 10 ∷ []
