-- Layout: the lines of a text, how the tokens of each are written, and which lines stay.
use Rattle.std.specs.Prelude.{◌≡◌, ℕ, ◌+◌, nat_lt, Bool, true, false, not, List, [], ◌∷◌, ◌++◌, ◌==◌, ◌&&◌, ◌||◌, if◌then◌else◌, replicate, map, flat_map, Option, Some, None, is_none}
use Rattle.std.specs.List.{list_any}
use Rattle.gitconf_text.specs.Part.{Part}
use Rattle.gitconf_text.specs.Document.{IsText}
use Rattle.gitconf_text.specs.Token.{tokens_of}
use Rattle.gitconf_items.specs.EventRef.{Shown, ShownComment, ShownHeader, ShownValueName, ShownValue, ShownNewline, ShownUnfinished, ShownLast, ShownBlanks, ShownSeparator, written}
use Rattle.gitconf_items.specs.ShownEvents.{shown_token}
use Rattle.gitconf_items.specs.Sections.{is_shown_header}
use Rattle.gitconf_layout.specs.declared.format.Indent.{Indent}
use Rattle.gitconf_layout.specs.declared.format.Indent.TheVariants.{Tabs, Spaces}
use Rattle.gitconf_layout.specs.declared.format.Newline.{Newline}
use Rattle.gitconf_layout.specs.declared.format.Newline.TheVariants.{Detect, Lf, CrLf}
use Rattle.gitconf_layout.specs.declared.format.Options.{Options}
use Rattle.gitconf_layout.specs.declared.place.Before.{Before}
use Rattle.gitconf_layout.specs.declared.place.Before.TheVariants.{Nothing, Value, Other}

-- the options that `Default` gives
abbrev pub default_options : Options
default_options = record {
  root_comment_indent = Some (Spaces 0);
  key_value_indent = Tabs 1;
  spaces_around_separator = true;
  newline = Detect;
  ensure_trailing_newline = true;
  max_leading_blank_lines = None;
  max_consecutive_blank_lines = None;
}

-- the bytes of an indent
abbrev pub indent_text : Indent → List ℕ
indent_text (Tabs n) = replicate n 9
indent_text (Spaces n) = replicate n 32

-- the line ending of the first newline: CR and LF if it holds a CR, otherwise LF; LF if there is none
abbrev pub detected : List Shown → List ℕ
detected [] = 10 ∷ []
detected (ShownNewline run ∷ tokens) = if list_any (λ b. b == 13) run then 13 ∷ 10 ∷ [] else 10 ∷ []
detected (_ ∷ tokens) = detected tokens

-- the line ending of a layout: the one that is asked for, or that of the text
abbrev pub line_end_of : Newline → List Shown → List ℕ
line_end_of Detect tokens = detected tokens
line_end_of Lf tokens = 10 ∷ []
line_end_of CrLf tokens = 13 ∷ 10 ∷ []

-- lines that are ended, and the tokens after the last of them; a newline is on the line that its first LF ends
pub record Lines : Type 0 where
  pub ended : List (List Shown)
  pub last : List Shown

-- the lines, with a token put at the front of the first one
abbrev pub on_first_line : Shown → Lines → Lines
on_first_line t lines = elim lines.ended [
  | [] ↦ record { ended = []; last = t ∷ lines.last }
  | line ∷ others ↦ record { ended = (t ∷ line) ∷ others; last = lines.last }
]

-- the lines, with those before them that the LFs of a run end
abbrev pub cut : (run : List ℕ) → Lines → Lines
cut [] lines = lines
cut (b ∷ run) lines = elim (b == 10) [
  | true ↦ record { ended = [] ∷ (cut run lines).ended; last = (cut run lines).last }
  | false ↦ cut run lines
]

-- the bytes of a newline token, in which each LF ends a line; none for any other token
abbrev pub line_ends_in : Shown → List ℕ
line_ends_in (ShownNewline run) = run
line_ends_in _ = []

-- the lines of tokens
abbrev pub lines_of : List Shown → Lines
lines_of [] = record { ended = []; last = [] }
lines_of (t ∷ tokens) = on_first_line t (cut (line_ends_in t) (lines_of tokens))

-- what comes before the next token on the line, after this token
abbrev pub behind : Before → Shown → Before
behind before (ShownBlanks run) = before
behind before (ShownNewline run) = before
behind before (ShownValue bytes) = Value
behind before _ = Other

-- the token is a comment
abbrev pub is_comment_event : Shown → Bool
is_comment_event (ShownComment tag text) = true
is_comment_event _ = false

-- the token is a newline
abbrev pub is_newline : Shown → Bool
is_newline (ShownNewline run) = true
is_newline _ = false

-- a comment comes first
abbrev pub begins_comment : List Shown → Bool
begins_comment [] = false
begins_comment (t ∷ rest) = is_comment_event t

-- a newline comes first
abbrev pub begins_newline : List Shown → Bool
begins_newline [] = false
begins_newline (t ∷ rest) = is_newline t

-- What is written before a name: at the start of a line after a header the indent, and after an entry without `=` one blank.
abbrev pub before_name : Options → (in_section : Bool) → Before → List ℕ
before_name options in_section Nothing = if in_section then indent_text options.key_value_indent else []
before_name options in_section Value = 32 ∷ []
before_name options in_section Other = []

-- the bytes of an indent, if one is asked for
abbrev pub root_indent : Option Indent → List ℕ
root_indent None = []
root_indent (Some indent) = indent_text indent

-- What is written before a comment: one blank after other tokens; at the start of a line the indent of names, or before the first header
-- its own.
abbrev pub before_comment : Options → (in_section : Bool) → Before → List ℕ
before_comment options in_section Nothing = if in_section then indent_text options.key_value_indent else root_indent options.root_comment_indent
before_comment options in_section Value = 32 ∷ []
before_comment options in_section Other = 32 ∷ []

-- nothing comes before on the line
abbrev pub is_nothing : Before → Bool
is_nothing Nothing = true
is_nothing Value = false
is_nothing Other = false

-- If comments before the first header have no indent of their own, blanks at the start of a line stay directly before such a comment.
abbrev pub keeps_blanks : Options → (in_section : Bool) → Before → (rest : List Shown) → Bool
keeps_blanks options in_section before rest = is_nothing before && not in_section && is_none options.root_comment_indent && begins_comment rest

-- a text without the CR at its end, if there is one
abbrev pub without_cr : List ℕ → List ℕ
without_cr [] = []
without_cr (b ∷ text) = elim text [ [] ↦ if b == 13 then [] else b ∷ [] | c ∷ more ↦ b ∷ without_cr text ]

-- a CR at the end of a comment is dropped if a newline follows
abbrev pub comment_text : (text : List ℕ) → (rest : List Shown) → List ℕ
comment_text text rest = if begins_newline rest then without_cr text else text

-- how a token is written before the rest of its line
abbrev pub set_token : Options → (in_section : Bool) → Before → Shown → (rest : List Shown) → List ℕ
set_token options in_section before (ShownBlanks run) rest = if keeps_blanks options in_section before rest then run else []
set_token options in_section before (ShownNewline run) rest = []
set_token options in_section before (ShownValueName name) rest = before_name options in_section before ++ name
set_token options in_section before ShownSeparator rest = if options.spaces_around_separator then 32 ∷ 61 ∷ 32 ∷ [] else 61 ∷ []
set_token options in_section before (ShownComment tag text) rest = before_comment options in_section before ++ (tag ∷ comment_text text rest)
set_token options in_section before (ShownHeader name separator subsection) rest = written (ShownHeader name separator subsection)
set_token options in_section before (ShownValue bytes) rest = written (ShownValue bytes)
set_token options in_section before (ShownUnfinished bytes) rest = written (ShownUnfinished bytes)
set_token options in_section before (ShownLast bytes) rest = written (ShownLast bytes)

-- the text of a line from this token on
abbrev pub line_text : Options → (in_section : Bool) → Before → List Shown → List ℕ
line_text options in_section before [] = []
line_text options in_section before (t ∷ rest) =
    set_token options in_section before t rest ++ line_text options (is_shown_header t || in_section) (behind before t) rest

-- the token is neither blanks nor a newline
abbrev pub is_content : Shown → Bool
is_content t = not (is_nothing (behind Nothing t))

-- the text of a line, and whether it has content
pub record SetLine : Type 0 where
  pub content : Bool
  pub text : List ℕ

-- a line, laid out
abbrev pub set_line : Options → (in_section : Bool) → List Shown → SetLine
set_line options in_section line = record { content = list_any is_content line; text = line_text options in_section Nothing line }

-- lines, laid out one after the other; those after a header are in a section
abbrev pub set_lines : Options → (in_section : Bool) → List (List Shown) → List SetLine
set_lines options in_section [] = []
set_lines options in_section (line ∷ lines) = set_line options in_section line ∷ set_lines options (in_section || list_any is_shown_header line) lines

-- fewer blank lines came before than may stay together
abbrev pub is_fewer : ℕ → (limit : Option ℕ) → Bool
is_fewer blank None = true
is_fewer blank (Some limit) = nat_lt blank limit

-- The lines that stay: all with content, and blank ones if fewer than the limit came directly before;
-- `limit` holds up to the first line with content, and then `later`.
abbrev pub kept : (limit later : Option ℕ) → (blank : ℕ) → List SetLine → List SetLine
kept limit later blank [] = []
kept limit later blank (line ∷ lines) = elim line.content [
  | true ↦ line ∷ kept later later 0 lines
  | false ↦ elim (is_fewer blank limit) [
    | true ↦ line ∷ kept limit later (blank + 1) lines
    | false ↦ kept limit later (blank + 1) lines
  ]
]

-- the texts of lines, each with a line ending
abbrev pub joined : (line_end : List ℕ) → List SetLine → List ℕ
joined line_end lines = flat_map (λ (line : SetLine). line.text ++ line_end) lines

-- the text of the lines that stay, and of the tokens after the last line ending
abbrev pub set_body : Options → (line_end : List ℕ) → Lines → List ℕ
set_body options line_end lines =
    joined line_end (kept options.max_leading_blank_lines options.max_consecutive_blank_lines 0 (set_lines options false lines.ended))
    ++ line_text options (list_any (list_any is_shown_header) lines.ended) Nothing lines.last

-- the byte is CR or LF
abbrev pub is_cr_or_lf : ℕ → Bool
is_cr_or_lf b = b == 13 || b == 10

-- a text without the CRs and LFs at its end
abbrev pub trimmed : List ℕ → List ℕ
trimmed [] = []
trimmed (b ∷ text) = elim (trimmed text) [ [] ↦ if is_cr_or_lf b then [] else b ∷ [] | c ∷ more ↦ b ∷ c ∷ more ]

-- the text with exactly one line ending at its end, unless it is empty
abbrev pub with_one_line_end : (line_end : List ℕ) → List ℕ → List ℕ
with_one_line_end line_end [] = []
with_one_line_end line_end (b ∷ text) = trimmed (b ∷ text) ++ line_end

-- the text of tokens, laid out
unfoldable pub laid_out : Options → List Shown → List ℕ
laid_out options tokens =
    let line_end = line_end_of options.newline tokens in
    let body = set_body options line_end (lines_of tokens) in
    if options.ensure_trailing_newline then with_one_line_end line_end body else body

-- the text of these parts, laid out
abbrev pub layout : Options → List Part → List ℕ
layout options parts = laid_out options (map shown_token (tokens_of parts))

-- the text is the layout of the input
abbrev pub IsLayout : Options → (input text : List ℕ) → Type 0
IsLayout options input text = (parts : List Part) × IsText input parts × (text ≡ layout options parts)
