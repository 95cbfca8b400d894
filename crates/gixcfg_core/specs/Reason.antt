-- What was looked for where reading stopped, and why it isn't there.
use Rattle.std.specs.Prelude.{ℕ, ◌+◌, ◌-◌, Bool, true, false, ◌&&◌, ◌==◌, not, List, [], ◌∷◌, Option, Some, None, is_some, slice_index, if◌then◌else◌, codes}
use Rattle.std.specs.List.{fold, list_any}
use Rattle.std.specs.Str.{bytes_eq}
use Rattle.gixcfg_core.specs.Line.{first_line}
use Rattle.gixcfg_core.specs.declared.reason.Wanted.{Wanted}
use Rattle.gixcfg_core.specs.declared.reason.Wanted.TheVariants.{Header, Name, Value}
use Rattle.gixcfg_core.specs.declared.reason.Reason.{Reason}
use Rattle.gixcfg_core.specs.declared.reason.Reason.TheVariants as reasons
use Rattle.gixcfg_core.specs.declared.reason.State.{State}
use Rattle.gixcfg_core.specs.declared.reason.State.TheVariants.{Plain, Quoted, Escape, Return, Stopped}

-- the first byte of a text is this one
abbrev pub begins : ℕ → List ℕ → Bool
begins b text = slice_index text 0 == b

-- what was looked for: what the parser says, but a header if a bracket is there
abbrev pub wanted : (kind rest : List ℕ) → Wanted
wanted kind rest =
    if bytes_eq kind (codes "value") then Value
    else if bytes_eq kind (codes "name") && not (begins 91 rest) then Name
    else Header

-- what it is called
abbrev pub name_of : Wanted → List ℕ
name_of Header = codes "not a section header"
name_of Name = codes "not a name"
name_of Value = codes "not a value"

-- a reason in words
abbrev pub words_of : Reason → List ℕ
words_of reasons.LoneReturn = codes "a carriage return without a line feed"
words_of reasons.NoNameByte =
    codes "a name begins with a letter, has letters, digits and - alone, and = or the end of the line after it"
words_of reasons.NoName = codes "the name is missing"
words_of reasons.NoHeader = codes "it is [NAME] or [NAME \"SUBSECTION\"], the name of letters, digits, - and ."
words_of reasons.NoLine = codes "a line begins with a letter, [, # or ;"
words_of reasons.OpenHeader = codes "the quote or the bracket is never closed"
words_of reasons.OpenBracket = codes "the bracket is never closed"
words_of reasons.OpenQuote = codes "the quote is never closed"
words_of reasons.NoEscape = codes "a backslash may only come before n, t, b, \\, \" and the end of a line"

-- what is wrong with a name: what stands where it can't go on
abbrev pub of_name : List ℕ → Reason
of_name rest =
    if begins 13 rest then reasons.LoneReturn else if begins 61 rest then reasons.NoName else reasons.NoNameByte

-- what is wrong with a header that begins with a bracket: how its line ends
abbrev pub of_brackets : List ℕ → Reason
of_brackets rest =
    if list_any (λ b. b == 93) (first_line rest) then reasons.NoHeader
    else if list_any (λ b. b == 34) (first_line rest) then reasons.OpenHeader
    else reasons.OpenBracket

-- what is wrong with a header
abbrev pub of_header : List ℕ → Option Reason
of_header rest =
    if begins 91 rest && (slice_index rest 1 == 93) then Some reasons.NoName
    else if begins 91 rest then Some (of_brackets rest)
    else if begins 13 rest then Some reasons.LoneReturn
    else Some reasons.NoLine

-- where reading of a value is after an escape, in quotes or not
abbrev pub ended : Bool → State
ended quoted = if quoted then Quoted else Plain

-- the byte may stand behind a backslash: n, t, b, a backslash, a quote, the end of a line
abbrev pub may_be_escaped : ℕ → Bool
may_be_escaped b = list_any (λ c. b == c) (110 ∷ 116 ∷ 98 ∷ 92 ∷ 34 ∷ 10 ∷ [])

-- where reading of a value is after one more byte: a quote opens or closes, a backslash takes one byte or the end of a line
-- with it, and the end of a line between quotes stops it
abbrev pub next_of : State → ℕ → State
next_of Plain b = if b == 34 then Quoted else if b == 92 then Escape false else Plain
next_of Quoted b =
    if b == 34 then Plain else if b == 92 then Escape true else if b == 10 then Stopped reasons.OpenQuote else Quoted
next_of (Escape quoted) b =
    if may_be_escaped b then ended quoted else if b == 13 then Return quoted else Stopped reasons.NoEscape
next_of (Return quoted) b = if b == 10 then ended quoted else Stopped reasons.NoEscape
next_of (Stopped reason) b = Stopped reason

-- why a value isn't one, from where its reading is at its end
abbrev pub told_by : State → Option Reason
told_by (Stopped reason) = Some reason
told_by Quoted = Some reasons.OpenQuote
told_by Plain = None
told_by (Escape quoted) = if quoted then Some reasons.OpenQuote else None
told_by (Return quoted) = if quoted then Some reasons.OpenQuote else None

-- what is wrong with a value
abbrev pub of_value : List ℕ → Option Reason
of_value rest = told_by (fold next_of Plain rest)

-- why reading stops there, if it does
abbrev pub stopped : State → Option Reason
stopped (Stopped reason) = Some reason
stopped Plain = None
stopped Quoted = None
stopped (Escape quoted) = None
stopped (Return quoted) = None

-- how many bytes an escape has that is being read
abbrev pub escape_len : State → ℕ
escape_len (Escape quoted) = 1
escape_len (Return quoted) = 2
escape_len Plain = 0
escape_len Quoted = 0
escape_len (Stopped reason) = 0

-- where the quote stands that was opened last: here, if this byte opens one
abbrev pub opened_at : State → (b here opened : ℕ) → ℕ
opened_at Plain b here opened = if b == 34 then here else opened
opened_at Quoted b here opened = opened
opened_at (Escape quoted) b here opened = opened
opened_at (Return quoted) b here opened = opened
opened_at (Stopped reason) b here opened = opened

-- where that stands for which reading stops: an escape that is none begins with its backslash
abbrev pub stop_at : Reason → (escape here opened : ℕ) → ℕ
stop_at reasons.NoEscape escape here opened = here - escape
stop_at reasons.LoneReturn escape here opened = opened
stop_at reasons.NoNameByte escape here opened = opened
stop_at reasons.NoName escape here opened = opened
stop_at reasons.NoHeader escape here opened = opened
stop_at reasons.NoLine escape here opened = opened
stop_at reasons.OpenHeader escape here opened = opened
stop_at reasons.OpenBracket escape here opened = opened
stop_at reasons.OpenQuote escape here opened = opened

-- Where that stands in a value which is wrong with it, counted in bytes: the backslash that nothing may follow, or else the quote that is never closed.
unfoldable pub wrong_from : (here opened : ℕ) → State → List ℕ → ℕ
wrong_from here opened state [] = opened
wrong_from here opened state (b ∷ rest) = elim (stopped (next_of state b)) [
  | Some reason ↦ stop_at reason (escape_len state) here opened
  | None ↦ wrong_from (here + 1) (opened_at state b here opened) (next_of state b) rest
]

-- what is wrong with what was looked for begins after so many bytes
abbrev pub bytes_before_fault : Wanted → List ℕ → ℕ
bytes_before_fault Header rest = 0
bytes_before_fault Name rest = 0
bytes_before_fault Value rest = if is_some (of_value rest) then wrong_from 0 0 Plain rest else 0

-- what is wrong with what was looked for, if that can be said
abbrev pub reason_of : Wanted → List ℕ → Option Reason
reason_of Header rest = of_header rest
reason_of Name rest = Some (of_name rest)
reason_of Value rest = of_value rest
