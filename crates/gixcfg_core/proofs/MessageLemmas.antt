-- How `format!` puts the parts of a message together.
use Rattle.std.proofs.Common.{◌≡◌, ℕ, List, [], ◌∷◌, ◌++◌, append-nil, refl}
use Rattle.std.specs.List.{concat}
use mathlib.Core.List.{append_assoc}

-- the parts of the first row
pub first_parts : (head bold file colon line column blank red what plain why tail bold' red' what' plain' why' : List ℕ) →
    bold ≡ bold' → red ≡ red' → what ≡ what' → plain ≡ plain' → why ≡ why' →
    head ++ ((bold ++ (file ++ (colon ++ (line ++ (colon ++ (column ++ (blank ++ (red ++ (what ++ (plain ++ why)))))))))) ++ tail)
    ≡ concat (head ∷ bold' ∷ file ∷ colon ∷ line ∷ colon ∷ column ∷ blank ∷ red' ∷ what' ∷ plain' ∷ why' ∷ tail ∷ [])
first_parts head bold file colon line column blank red what plain why tail bold' red' what' plain' why' is_bold is_red is_what is_plain is_why =
    rw (is_bold, is_red, is_what, is_plain, is_why) simp (append_assoc, append-nil)

-- the parts of the message
pub message_parts : (first dots before behind more feed blanks under red caret plain first' dots' before' behind' more' blanks' under' red' plain' : List ℕ) →
    first ≡ first' → dots ≡ dots' → before ≡ before' → behind ≡ behind' → more ≡ more' → blanks ≡ blanks' → under ≡ under' → red ≡ red' → plain ≡ plain' →
    concat (first ∷ dots ∷ before ∷ behind ∷ more ∷ feed ∷ blanks ∷ under ∷ red ∷ caret ∷ plain ∷ feed ∷ [])
    ≡ concat (first' ∷ dots' ∷ before' ∷ behind' ∷ more' ∷ feed ∷ blanks' ∷ under' ∷ red' ∷ caret ∷ plain' ∷ feed ∷ [])
message_parts first dots before behind more feed blanks under red caret plain first' dots' before' behind' more' blanks' under' red' plain'
    is_first is_dots is_before is_behind is_more is_blanks is_under is_red is_plain =
    rw (is_first, is_dots, is_before, is_behind, is_more, is_blanks, is_under, is_red, is_plain) refl
