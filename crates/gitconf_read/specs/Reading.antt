-- The functional reader, which only proofs see: the parser's steps over the bytes that are left, with absolute offsets and the
-- parser's own records. The grammar knows nothing of it.
use Rattle.std.specs.Prelude.{◌≡◌, ℕ, zero, suc, ◌+◌, ◌-◌, Bool, true, false, not, List, [], ◌∷◌, ◌++◌, ◌==◌, ◌&&◌, if◌then◌else◌, Result, Ok, Err, nat_lt, drop, slice_index, Option, Some, None}
use Rattle.gitconf_text.specs.Unit.{LineFeed, Quote, Mark, Backslash, White, Other, class_of, is_mark}
use Rattle.gitconf_text.specs.Value.{is_value_escape}
use Rattle.gitconf_text.specs.Text.{begins, begins_line_end}
use Rattle.gitconf_text.specs.Bytes.{is_blank, is_name_byte, is_header_byte}
use Rattle.std.specs.Char.{is_ascii_alphabetic}
use Rattle.gitconf_items.specs.declared.event.Span.{Span}
use Rattle.gitconf_items.specs.declared.event.Header.{Header}
use Rattle.gitconf_items.specs.declared.event.Event.{Event}
use Rattle.gitconf_items.specs.declared.event.Event.TheVariants as kinds
use Rattle.gitconf_read.specs.declared.reading.Fault.{Fault}
use Rattle.gitconf_read.specs.declared.reading.Expected.{Expected}
use Rattle.gitconf_read.specs.declared.reading.Expected.TheVariants as expected
use Rattle.gitconf_read.specs.declared.reading.run.Run.{Run}
use Rattle.gitconf_read.specs.declared.reading.run.Run.TheVariants as runs
use Rattle.gitconf_read.specs.declared.reading.part.Opening.{Opening}
use Rattle.gitconf_read.specs.declared.reading.part.Opening.TheVariants as openings
use Rattle.gitconf_read.specs.declared.reading.value.PieceEnd.{PieceEnd}
use Rattle.gitconf_read.specs.declared.reading.value.PieceEnd.TheVariants as ends
use Rattle.gitconf_read.specs.declared.reading.ReadError.{ReadError}
use Rattle.gitconf_read.specs.declared.reading.ReadError.TheVariants as errors

-- the events so far and the offset after what was read, or the fault
abbrev pub Read : Type 0
Read = Result (List Event × ℕ) Fault

-- the code returns the reader's offset or fault, and leaves the reader's events, unless memory runs out
abbrev pub Gives : Result ℕ ReadError → List Event → Read → Type 0
Gives (Ok n) events read = read ≡ Ok (events, n)
Gives (Err errors.Memory) events read = Unit {0}
Gives (Err (errors.Fault f)) events read = read ≡ Err f

-- the span from one offset up to another
abbrev pub span : (from end : ℕ) → Span
span from end = record { start = from; len = end - from }

-- what follows a backslash in a value
pub data Behind : Type 0 where
  NothingBehind : Behind
  LineFeedBehind : Behind
  CrLfBehind : Behind
  EscapeBehind : Behind
  OtherBehind : Behind

-- what follows a backslash in a value, by the bytes after it
abbrev pub behind : List ℕ → Behind
behind [] = NothingBehind
behind (b ∷ rest) =
    if b == 10 then LineFeedBehind else
    if b == 13 && begins (λ c. c == 10) rest then CrLfBehind else
    if is_value_escape b then EscapeBehind else OtherBehind

-- the end of a value: its last piece, and the offset after it
abbrev pub value_end : (first : ℕ) → List Event → (joined : Bool) → (from kept : ℕ) → (quoted : Bool) → Read
value_end first events joined from kept quoted =
    if quoted then Err (record { at = first; expected = expected.Value })
    else Ok (events ++ (if joined then kinds.ValueDone (span from kept) else kinds.Value (span from kept)) ∷ [], kept)

-- the value that began at `first`, read on from the offset `n`; `from`: where its piece began; `kept`: after the last byte of the
-- piece that isn't white; `skip`: how many of the bytes were read already
unfoldable pub value_from : (first : ℕ) → List Event → (joined : Bool) → (from kept : ℕ) → (quoted : Bool) → (n skip : ℕ) → List ℕ → Read
value_from first events joined from kept quoted n skip [] = value_end first events joined from kept quoted
value_from first events joined from kept quoted n (suc skip) (b ∷ rest) = value_from first events joined from kept quoted (n + 1) skip rest
value_from first events joined from kept quoted n zero (b ∷ rest) = elim (class_of b) [
  | LineFeed ↦ value_end first events joined from kept quoted
  | Mark ↦ elim quoted [
    | true ↦ value_from first events joined from (n + 1) true (n + 1) 0 rest
    | false ↦ value_end first events joined from kept false
  ]
  | Quote ↦ value_from first events joined from (n + 1) (not quoted) (n + 1) 0 rest
  | White ↦ value_from first events joined from kept quoted (n + 1) 0 rest
  | Other ↦ value_from first events joined from (n + 1) quoted (n + 1) 0 rest
  | Backslash ↦ elim (behind rest) [
    | NothingBehind ↦ if quoted then Err (record { at = first; expected = expected.Value })
        else Ok (events ++ kinds.ValueNotDone (span from n) ∷ [] ++ kinds.ValueDone (span (n + 1) (n + 1)) ∷ [], n + 1)
    | LineFeedBehind ↦ value_from first (events ++ kinds.ValueNotDone (span from n) ∷ [] ++ kinds.Newline (span (n + 1) (n + 1 + 1)) ∷ []) true (n + 1 + 1) (n + 1 + 1) quoted (n + 1) 1 rest
    | CrLfBehind ↦ value_from first (events ++ kinds.ValueNotDone (span from n) ∷ [] ++ kinds.Newline (span (n + 1) (n + 1 + 2)) ∷ []) true (n + 1 + 2) (n + 1 + 2) quoted (n + 1) 2 rest
    | EscapeBehind ↦ value_from first events joined from (n + 1 + 1) quoted (n + 1) 1 rest
    | OtherBehind ↦ Err (record { at = first; expected = expected.Value })
  ]
]

-- the value that begins at an offset, whose text begins there
abbrev pub value_at : (first : ℕ) → List Event → List ℕ → Read
value_at first events text = value_from first events false first first false first 0 text

-- how the piece of a value ends that is read on at the offset `n`; `kept`: after its last byte that isn't white; `skip`: how many
-- of the bytes were read already
unfoldable pub piece_from : (kept : ℕ) → (quoted : Bool) → (n skip : ℕ) → List ℕ → PieceEnd
piece_from kept quoted n skip [] = if quoted then ends.Refused else ends.Last kept
piece_from kept quoted n (suc skip) (b ∷ rest) = piece_from kept quoted (n + 1) skip rest
piece_from kept quoted n zero (b ∷ rest) = elim (class_of b) [
  | LineFeed ↦ if quoted then ends.Refused else ends.Last kept
  | Mark ↦ elim quoted [
    | true ↦ piece_from (n + 1) true (n + 1) 0 rest
    | false ↦ ends.Last kept
  ]
  | Quote ↦ piece_from (n + 1) (not quoted) (n + 1) 0 rest
  | White ↦ piece_from kept quoted (n + 1) 0 rest
  | Other ↦ piece_from (n + 1) quoted (n + 1) 0 rest
  | Backslash ↦ elim (behind rest) [
    | NothingBehind ↦ if quoted then ends.Refused else ends.Unended n
    | LineFeedBehind ↦ ends.GoesOn n 1 quoted
    | CrLfBehind ↦ ends.GoesOn n 2 quoted
    | EscapeBehind ↦ piece_from (n + 1 + 1) quoted (n + 1) 1 rest
    | OtherBehind ↦ ends.Refused
  ]
]

-- what the value that began at `first` is read to if its piece, which began at `from`, ends like this
abbrev pub value_behind : (input : List ℕ) → (first : ℕ) → List Event → (joined : Bool) → (from : ℕ) → PieceEnd → Read
value_behind input first events joined from (ends.Last kept) = value_end first events joined from kept false
value_behind input first events joined from (ends.GoesOn at line_end quoted) =
    let n = at + 1 + line_end in
    value_from first (events ++ kinds.ValueNotDone (span from at) ∷ [] ++ kinds.Newline (span (at + 1) n) ∷ []) true n n quoted n 0 (drop n input)
value_behind input first events joined from (ends.Unended at) = Ok (events ++ kinds.ValueNotDone (span from at) ∷ [] ++ kinds.ValueDone (span (at + 1) (at + 1)) ∷ [], at + 1)
value_behind input first events joined from ends.Refused = Err (record { at = first; expected = expected.Value })

-- a byte that stands for itself in a value, quotes or not
abbrev pub is_plain : ℕ → Bool
is_plain b = elim (class_of b) [ Other ↦ true | _ ↦ false ]

-- a byte that stands for itself in a quoted subsection
abbrev pub is_spelled : ℕ → Bool
is_spelled b = elim (class_of b) [ LineFeed ↦ false | Quote ↦ false | Backslash ↦ false | _ ↦ true ]

-- what a run consists of: whether the text from a byte on goes on with it
abbrev pub run_test : Run → List ℕ → Bool
run_test runs.Blanks text = begins is_blank text
run_test runs.LineEnds text = begins_line_end text
run_test runs.CommentText text = not (begins_line_end text)
run_test runs.NameBytes text = begins is_name_byte text
run_test runs.HeaderBytes text = begins is_header_byte text
run_test runs.PlainBytes text = begins is_plain text

-- the offset after the run that is at the offset n
unfoldable pub end_of_run : (List ℕ → Bool) → (n : ℕ) → List ℕ → ℕ
end_of_run test n [] = n
end_of_run test n (b ∷ rest) = elim (test (b ∷ rest)) [
  | true ↦ end_of_run test (n + 1) rest
  | false ↦ n
]

-- where the run at the offset n of the whole input ends
abbrev pub run_end_at : (input : List ℕ) → Run → (n : ℕ) → ℕ
run_end_at input run n = end_of_run (run_test run) n (drop n input)

-- the events and a blanks token, if there are blanks
abbrev pub with_blanks : List Event → (from end : ℕ) → List Event
with_blanks events from end = if nat_lt from end then events ++ kinds.Whitespace (span from end) ∷ [] else events

-- the events and a newline token, if there are line endings
abbrev pub with_line_ends : List Event → (from end : ℕ) → List Event
with_line_ends events from end = if nat_lt from end then events ++ kinds.Newline (span from end) ∷ [] else events

-- what is assigned, after a name and its blanks
unfoldable pub assigned_at : (input : List ℕ) → (n : ℕ) → List Event → Read
assigned_at input n events = elim (begins (λ b. b == 61) (drop n input)) [
  | false ↦ Ok (events ++ kinds.Value (span n n) ∷ [], n)
  | true ↦
      let first = run_end_at input runs.Blanks (n + 1) in
      value_at first (with_blanks (events ++ kinds.KeyValueSeparator ∷ []) (n + 1) first) (drop first input)
]

-- the entry whose name begins, with a letter, at the offset n
unfoldable pub entry_at : (input : List ℕ) → (n : ℕ) → List Event → Read
entry_at input n events =
    let name_end = run_end_at input runs.NameBytes (n + 1) in
    let blanks_end = run_end_at input runs.Blanks name_end in
    assigned_at input blanks_end (with_blanks (events ++ kinds.SectionValueName (span n name_end) ∷ []) name_end blanks_end)

-- whether a byte follows that may follow a backslash in a quoted subsection
abbrev pub escapes_in_subsection : List ℕ → Bool
escapes_in_subsection text = begins (λ b. not (b == 10)) text

-- the offset of the quote that ends the subsection whose spelling goes on at the offset n
unfoldable pub spelling_from : (n skip : ℕ) → List ℕ → Option ℕ
spelling_from n skip [] = None
spelling_from n (suc skip) (b ∷ rest) = spelling_from (n + 1) skip rest
spelling_from n zero (b ∷ rest) = elim (class_of b) [
  | Quote ↦ Some n
  | LineFeed ↦ None
  | Backslash ↦ elim (escapes_in_subsection rest) [
    | true ↦ spelling_from (n + 1) 1 rest
    | false ↦ None
  ]
  | _ ↦ spelling_from (n + 1) 0 rest
]

-- the header without quotes whose name ends with the bracket at the offset n
abbrev pub unquoted_header : (input : List ℕ) → (from n : ℕ) → Option (Header × ℕ)
unquoted_header input from n =
    let dot = run_end_at input runs.NameBytes from in
    if nat_lt dot n then Some (record { name = span from dot; separator = Some (span dot (dot + 1)); subsection = Some (span (dot + 1) n); decoded = None }, n + 1)
    else if nat_lt from n then Some (record { name = span from n; separator = None; subsection = None; decoded = None }, n + 1)
    else None

-- the header with quotes whose name ends at the offset n, where blanks may be
unfoldable pub quoted_header : (input : List ℕ) → (from n : ℕ) → Option (Header × ℕ)
quoted_header input from n =
    let blanks_end = run_end_at input runs.Blanks n in
    if nat_lt n blanks_end && begins (λ b. b == 34) (drop blanks_end input)
    then elim (spelling_from (blanks_end + 1) 0 (drop (blanks_end + 1) input)) [
      | None ↦ None
      | Some end ↦ if begins (λ b. b == 93) (drop (end + 1) input)
          then Some (record { name = span from n; separator = Some (span n blanks_end); subsection = Some (span (blanks_end + 1) end); decoded = None }, end + 1 + 1)
          else None
    ]
    else None

-- the header whose bracket is at the offset n, and the offset after it
unfoldable pub header_at : (input : List ℕ) → (n : ℕ) → Option (Header × ℕ)
header_at input n =
    let name_end = run_end_at input runs.HeaderBytes (n + 1) in
    if begins (λ b. b == 93) (drop name_end input) then unquoted_header input (n + 1) name_end
    else quoted_header input (n + 1) name_end

-- which part may begin here
abbrev pub opening_of : List ℕ → Opening
opening_of [] = openings.Nothing
opening_of (b ∷ rest) =
    if is_blank b then openings.Blanks else
    if begins_line_end (b ∷ rest) then openings.LineEnds else
    if is_mark b then openings.Comment else
    if b == 91 then openings.Header else
    if is_ascii_alphabetic b then openings.Entry else openings.Nothing

-- one part, from the offset n on; `wanted`: what is reported as looked for if there is none
unfoldable pub part_at : (input : List ℕ) → (n : ℕ) → Expected → List Event → Read
part_at input n wanted events = elim (opening_of (drop n input)) [
  | openings.Blanks ↦ let end = run_end_at input runs.Blanks (n + 1) in Ok (events ++ kinds.Whitespace (span n end) ∷ [], end)
  | openings.LineEnds ↦ let end = run_end_at input runs.LineEnds (n + 1) in Ok (events ++ kinds.Newline (span n end) ∷ [], end)
  | openings.Comment ↦
      let end = run_end_at input runs.CommentText (n + 1) in
      Ok (events ++ kinds.Comment (slice_index input n) (span (n + 1) end) ∷ [], end)
  | openings.Header ↦ elim (header_at input n) [
    | None ↦ Err (record { at = n; expected = wanted })
    | Some found ↦ Ok (events ++ kinds.SectionHeader found.0 ∷ [], found.1)
  ]
  | openings.Entry ↦ entry_at input n events
  | openings.Nothing ↦ Err (record { at = n; expected = wanted })
]

-- what is looked for after a part that begins with b
abbrev pub wanted_behind : (b : ℕ) → Expected → Expected
wanted_behind b wanted = if b == 91 then expected.Name else wanted

-- all parts from the offset n on; `skip`: how many of the bytes were read already
unfoldable pub text_from : (input : List ℕ) → Expected → List Event → (n skip : ℕ) → List ℕ → Result (List Event) Fault
text_from input wanted events n skip [] = Ok events
text_from input wanted events n (suc skip) (b ∷ rest) = text_from input wanted events (n + 1) skip rest
text_from input wanted events n zero (b ∷ rest) = elim (part_at input n wanted events) [
  | Err f ↦ Err f
  | Ok read ↦ text_from input (wanted_behind b wanted) read.0 (n + 1) (read.1 - (n + 1)) rest
]

-- the code leaves the reader's events or returns its fault, unless memory runs out
abbrev pub GivesAll : Result (Unit {0}) ReadError → List Event → Result (List Event) Fault → Type 0
GivesAll (Ok n) events read = read ≡ Ok events
GivesAll (Err errors.Memory) events read = Unit {0}
GivesAll (Err (errors.Fault f)) events read = read ≡ Err f
