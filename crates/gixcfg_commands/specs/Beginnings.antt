-- What a text begins with that edits keep.
-- Source: this project's manual page, `set`.
use Rattle.std.specs.Prelude.{ℕ, ◌+◌, ◌==◌, ◌||◌, Bool, true, false, not, nat_eq, List, [], ◌∷◌, ◌++◌, take, drop, Option, Some, None, if◌then◌else◌}
use Rattle.std.specs.List.{starts_with}
use Rattle.gixcfg_core.specs.Line.{mark}
use Rattle.gixcfg_commands.specs.declared.beginnings.Leading.{Leading}
use Rattle.gixcfg_commands.specs.declared.beginnings.Leading.TheVariants.{Header, Comment, Blank, LineEnd, Other}

-- what a byte before the first header of a text is, outside of comments
abbrev pub kind_of : ℕ → Leading
kind_of b =
    if b == 91 then Header
    else if b == 35 || b == 59 then Comment
    else if b == 32 || b == 9 then Blank
    else if b == 13 || b == 10 then LineEnd
    else Other

-- Where the blanks end that the first header of a text stands behind on its line, if above it are but comments and blank lines.
abbrev pub end_of_indent : (at : ℕ) (is_comment is_blank : Bool) → List ℕ → Option ℕ
end_of_indent at is_comment is_blank [] = None
end_of_indent at true is_blank (b ∷ bs) = end_of_indent (at + 1) (not (b == 10)) false bs
end_of_indent at false is_blank (b ∷ bs) = elim (kind_of b) [
  | Header ↦ if is_blank then Some at else None
  | Comment ↦ end_of_indent (at + 1) true is_blank bs
  | Blank ↦ end_of_indent (at + 1) false true bs
  | LineEnd ↦ end_of_indent (at + 1) false false bs
  | Other ↦ None
]

-- how long the line ending is that a text begins with, if a header comes behind it
abbrev pub end_before_header : List ℕ → ℕ
end_before_header text =
    if starts_with nat_eq text (10 ∷ 91 ∷ []) then 1
    else if starts_with nat_eq text (13 ∷ 10 ∷ 91 ∷ []) then 2
    else 0

-- the text without the line ending at a place, if a header comes behind that
abbrev pub joined : (at : ℕ) → List ℕ → List ℕ
joined at text = take at text ++ drop (at + end_before_header (drop at text)) text

-- An edited text whose first header stands on the line of the blanks that stood before that of the text before. (The library ends the line behind them.)
abbrev pub indented : (before text : List ℕ) → List ℕ
indented before text = elim (end_of_indent 0 false false before) [
  | None ↦ text
  | Some end ↦ if starts_with nat_eq text (take end before) then joined end text else text
]

-- an edited text behind the mark that the text before began with, and with the indent of its first header
abbrev pub marked : (before text : List ℕ) → List ℕ
marked before text = if starts_with nat_eq before mark then mark ++ indented (drop 3 before) text else indented before text
