-- The message of a refused text.
use Rattle.std.specs.Prelude.{ℕ, ◌+◌, Bool, List, [], ◌∷◌, ◌++◌, length, drop, Option, Some, None, if◌then◌else◌, codes}
use Rattle.std.specs.Fmt.{decimal}
use Rattle.std.specs.List.{concat}
use Rattle.bstr.specs.Utf8.{lossy_chars}
use Rattle.gixcfg_core.specs.Line.{is_cut_before, is_cut_behind, line_at, line_before, shown, shown_before, shown_behind, under}
use Rattle.gixcfg_core.specs.Reason.{bytes_before_fault, wanted, name_of, reason_of, words_of}
use Rattle.gixcfg_core.specs.declared.reason.Reason.{Reason}
use Rattle.gixcfg_core.specs.declared.message.Refused.{Refused}

-- what turns a terminal to bold, to bold and red, and back
abbrev pub bold : List ℕ
bold = 27 ∷ codes "[1m"

abbrev pub red : List ℕ
red = 27 ∷ codes "[1;31m"

abbrev pub plain : List ℕ
plain = 27 ∷ codes "[m"

-- such bytes where colors are shown, else nothing
abbrev pub colors : Bool → List ℕ → List ℕ
colors is_colored bytes = if is_colored then bytes else []

-- a reason behind a colon, or nothing
abbrev pub because : Option Reason → List ℕ
because None = []
because (Some reason) = codes ": " ++ words_of reason

-- the first row: the file, the line and the column, what was looked for there, and why it isn't there
abbrev pub first_row : Refused → (line column : ℕ) → Bool → List ℕ
first_row refused line column is_colored =
    let looked_for = wanted refused.kind.now refused.rest.now in
    concat (codes "gixcfg: " ∷ colors is_colored bold ∷ refused.file.now ∷ codes ":" ∷ decimal line ∷ codes ":"
    ∷ decimal column ∷ codes ": " ∷ colors is_colored red ∷ name_of looked_for ∷ colors is_colored plain
    ∷ because (reason_of looked_for refused.rest.now) ∷ codes " [E1]\n" ∷ [])

-- how many bytes of the text are left from what is wrong on
abbrev pub left_of : Refused → ℕ
left_of refused = length (drop (bytes_before_fault (wanted refused.kind.now refused.rest.now) refused.rest.now) refused.rest.now)

-- what stands for the part of a line that is left out, and what is as wide as that
abbrev pub dots : (is_cut : Bool) → List ℕ
dots is_cut = if is_cut then codes "..." else []

abbrev pub blanks : (is_cut : Bool) → List ℕ
blanks is_cut = if is_cut then codes "   " else []

-- the message: the first row, the line of the text around the place, and a mark under the place
abbrev pub message_of : Refused → Bool → List ℕ
message_of refused is_colored =
    let text = refused.text.now in let left = left_of refused in
    concat (first_row refused (line_at text left) (length (lossy_chars (line_before text left)) + 1) is_colored
    ∷ dots (is_cut_before text left) ∷ shown (shown_before text left) ∷ shown (shown_behind text left) ∷ dots (is_cut_behind text left) ∷ codes "\n"
    ∷ blanks (is_cut_before text left) ∷ under (shown_before text left) ∷ colors is_colored red ∷ codes "^" ∷ colors is_colored plain ∷ codes "\n" ∷ [])
