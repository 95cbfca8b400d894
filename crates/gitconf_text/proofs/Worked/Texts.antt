-- Worked rows: what the definitions say of single texts, values and headers, by computation.
use Prim.Native.String.{String}
use Rattle.std.proofs.Common.{◌≡◌, ℕ, ◌||◌, ◌==◌, Bool, true, false, List, [], ◌∷◌, ◌++◌, Some, None, refl, codes, lit<, inl, inr, arith}
use Rattle.gitconf_text.specs.Unit.{units_of}
use Rattle.gitconf_text.specs.Value.{Piece, IsValue, are_paired, may_follow_value, plain, escaped}
use Rattle.gitconf_text.specs.Header.{Header, PlainHeader, DottedHeader, QuotedHeader, FitsHeader, IsHeader, is_spelling}
use Rattle.gitconf_text.specs.Names.{is_value_name}
use Rattle.gitconf_text.specs.Part.{BlanksItem, LineEndsItem, CommentItem, EntryItem, Part, ItemPart, HeaderPart, AreFit, spelled, ends_comment}
use Rattle.gitconf_text.specs.Document.{Document, DocumentEntry, DocumentSection, gathered, byte_mark, unmarked, IsText}
use Rattle.gitconf_text.specs.Token.{Token, CommentToken, HeaderToken, NameToken, ValueToken, NewlineToken, ValueNotDoneToken, ValueDoneToken, WhitespaceToken, SeparatorToken, tokens_of}

-- Short forms of parts.

abbrev pub blanks : String → Part
blanks run = ItemPart (BlanksItem (codes run))

abbrev pub line_ends : String → Part
line_ends run = ItemPart (LineEndsItem (codes run))

abbrev pub comment : (tag : ℕ) → String → Part
comment tag text = ItemPart (CommentItem tag (codes text))

-- a name and the blanks after it, without a value
abbrev pub alone : (name behind : String) → Part
alone name behind = ItemPart (EntryItem (record { name = codes name; blanks = codes behind; assigned = None }))

abbrev pub piece : (text line_end : String) → Piece
piece text line_end = record { text = codes text; line_end = codes line_end }

-- a name, the blanks before and after `=`, the pieces that go on, and the last one
abbrev pub continued : (name before behind : String) → List Piece → (last : String) → Part
continued name before behind pieces last = ItemPart (EntryItem (record {
  name = codes name;
  blanks = codes before;
  assigned = Some (record { blanks = codes behind; value = record { pieces = pieces; last = codes last } });
}))

-- a name, the blanks before and after `=`, and a value of one piece
abbrev pub valued : (name before behind value : String) → Part
valued name before behind value = continued name before behind [] value

abbrev pub plain_header : (name : String) → Header
plain_header name = PlainHeader (codes name)

abbrev pub dotted_header : (name subsection : String) → Header
dotted_header name subsection = DottedHeader (codes name) (codes subsection)

abbrev pub quoted_header : (name between spelling : String) → Header
quoted_header name between spelling = QuotedHeader (codes name) (codes between) (codes spelling)

abbrev pub header : Header → Part
header h = HeaderPart h

-- Short forms of documents.

abbrev pub key : (name : String) → DocumentEntry
key name = record { name = codes name; raw = None }

abbrev pub key_value : (name raw : String) → DocumentEntry
key_value name raw = record { name = codes name; raw = Some (codes raw) }

abbrev pub section : (name : String) → List DocumentEntry → DocumentSection
section name entries = record { name = codes name; subsection = None; entries = entries }

abbrev pub subsection : (name sub : String) → List DocumentEntry → DocumentSection
subsection name sub entries = record { name = codes name; subsection = Some (codes sub); entries = entries }

abbrev pub document : (front : List DocumentEntry) → List DocumentSection → Document
document front sections = record { front = front; sections = sections }

-- Short forms of tokens.

abbrev pub comment_token : (tag : ℕ) → String → Token
comment_token tag text = CommentToken tag (codes text)

abbrev pub name_token : String → Token
name_token bytes = NameToken (codes bytes)

abbrev pub value_token : String → Token
value_token bytes = ValueToken (codes bytes)

abbrev pub newline_token : String → Token
newline_token bytes = NewlineToken (codes bytes)

abbrev pub unfinished_token : String → Token
unfinished_token bytes = ValueNotDoneToken (codes bytes)

abbrev pub done_token : String → Token
done_token bytes = ValueDoneToken (codes bytes)

abbrev pub blank_token : String → Token
blank_token bytes = WhitespaceToken (codes bytes)

-- the text is these parts, which have this document and these tokens
pub record IsRow (text : List ℕ) (parts : List Part) (whole : Document) (tokens : List Token) : Type 0 where
  pub text_is : IsText text parts
  pub document_is : gathered parts ≡ whole
  pub tokens_are : tokens_of parts ≡ tokens

-- a row from what each part asks of what follows it; all else computes
row : {text : List ℕ} {parts : List Part} {whole : Document} {tokens : List Token}
    → unmarked text ≡ spelled parts → AreFit parts [] → gathered parts ≡ whole → tokens_of parts ≡ tokens → IsRow text parts whole tokens
row spelling fits entries events = record {
  text_is = record { spelled_is = spelling; fits = fits };
  document_is = entries;
  tokens_are = events;
}

-- what the parts of a row ask: bounds on lengths, sides of a choice, and the rest by computation
pub ruleset fits = (lit<, tt, inl, inr)

-- Texts.

-- no parts at all
pub empty_text : IsRow (codes "")
    []
    (document [] [])
    []
empty_text = row refl tt refl refl

-- the mark alone is a text of no parts
pub mark_alone : IsRow (byte_mark)
    []
    (document [] [])
    []
mark_alone = row refl tt refl refl

-- the mark is no part
pub mark_before_a_header : IsRow (byte_mark ++ codes "[a]\n")
    (header (plain_header "a") ∷ line_ends "\n" ∷ [])
    (document [] (section "a" [] ∷ []))
    (HeaderToken (plain_header "a") ∷ newline_token "\n" ∷ [])
mark_before_a_header = row refl (search fits) refl refl

-- one key with its value, on the line of the header
pub one_entry : IsRow (codes "[a] k = v")
    (header (plain_header "a") ∷ blanks " " ∷ valued "k" " " " " "v" ∷ [])
    (document [] (section "a" (key_value "k" "v" ∷ []) ∷ []))
    (HeaderToken (plain_header "a") ∷ blank_token " " ∷ name_token "k" ∷ blank_token " " ∷ SeparatorToken ∷ blank_token " " ∷ value_token "v" ∷ [])
one_entry = row refl (search fits) refl refl

-- a key without `=`, and a second key after it
pub two_keys_on_a_line : IsRow (codes "[a] b c=d")
    (header (plain_header "a") ∷ blanks " " ∷ alone "b" " " ∷ valued "c" "" "" "d" ∷ [])
    (document [] (section "a" (key "b" ∷ key_value "c" "d" ∷ []) ∷ []))
    (HeaderToken (plain_header "a") ∷ blank_token " " ∷ name_token "b" ∷ blank_token " " ∷ value_token "" ∷ name_token "c" ∷ SeparatorToken ∷ value_token "d" ∷ [])
two_keys_on_a_line = row refl (search fits) refl refl

-- a quote that goes on over a line ending: the `;` in it is no comment, the one after it is
pub quote_over_a_line_end : IsRow (codes "[section \"a\"] b =\"\\\n;\";a")
    (header (quoted_header "section" " " "a") ∷ blanks " " ∷ continued "b" " " "" (piece "\"" "\n" ∷ []) ";\"" ∷ comment 59 "a" ∷ [])
    (document [] (subsection "section" "a" (key_value "b" "\";\"" ∷ []) ∷ []))
    (HeaderToken (quoted_header "section" " " "a") ∷ blank_token " " ∷ name_token "b" ∷ blank_token " " ∷ SeparatorToken ∷ unfinished_token "\"" ∷ newline_token "\n" ∷ done_token ";\"" ∷ comment_token 59 "a" ∷ [])
quote_over_a_line_end = row refl (search fits) refl refl

-- a backslash in a subsection makes the next byte itself
pub escapes_in_a_subsection : IsRow (codes "[hello \"foo\\\\bar\\\"\"]")
    (header (quoted_header "hello" " " "foo\\\\bar\\\"") ∷ [])
    (document [] (subsection "hello" "foo\\bar\"" [] ∷ []))
    (HeaderToken (quoted_header "hello" " " "foo\\\\bar\\\"") ∷ [])
escapes_in_a_subsection = row refl (search fits) refl refl

-- the name before a quoted subsection may be empty
pub quoted_header_without_name : IsRow (codes "[ \"core\"]")
    (header (quoted_header "" " " "core") ∷ [])
    (document [] (subsection "" "core" [] ∷ []))
    (HeaderToken (quoted_header "" " " "core") ∷ [])
quoted_header_without_name = row refl (search fits) refl refl

-- the subsection of a dotted header is told in lower case, its name as spelled
pub dotted_subsection_in_lower_case : IsRow (codes "[Hello.World]")
    (header (dotted_header "Hello" "World") ∷ [])
    (document [] (subsection "Hello" "world" [] ∷ []))
    (HeaderToken (dotted_header "Hello" "World") ∷ [])
dotted_subsection_in_lower_case = row refl (search fits) refl refl

-- a dotted header is cut at its first dot
pub cut_at_the_first_dot : IsRow (codes "[a.b.C]")
    (header (dotted_header "a" "b.C") ∷ [])
    (document [] (subsection "a" "b.c" [] ∷ []))
    (HeaderToken (dotted_header "a" "b.C") ∷ [])
cut_at_the_first_dot = row refl (search fits) refl refl

-- nothing before the dot
pub dotted_header_without_name : IsRow (codes "[.a]")
    (header (dotted_header "" "a") ∷ [])
    (document [] (subsection "" "a" [] ∷ []))
    (HeaderToken (dotted_header "" "a") ∷ [])
dotted_header_without_name = row refl (search fits) refl refl

-- nothing before the dot, and nothing after it
pub dot_alone : IsRow (codes "[.]")
    (header (dotted_header "" "") ∷ [])
    (document [] (subsection "" "" [] ∷ []))
    (HeaderToken (dotted_header "" "") ∷ [])
dot_alone = row refl (search fits) refl refl

-- the name before a quoted subsection may hold dots
pub dots_before_a_quote : IsRow (codes "[a.b \"c\"]")
    (header (quoted_header "a.b" " " "c") ∷ [])
    (document [] (subsection "a.b" "c" [] ∷ []))
    (HeaderToken (quoted_header "a.b" " " "c") ∷ [])
dots_before_a_quote = row refl (search fits) refl refl

-- a bracket in a subsection
pub bracket_in_a_subsection : IsRow (codes "[a \"]\"]")
    (header (quoted_header "a" " " "]") ∷ [])
    (document [] (subsection "a" "]" [] ∷ []))
    (HeaderToken (quoted_header "a" " " "]") ∷ [])
bracket_in_a_subsection = row refl (search fits) refl refl

-- byte 0 in a subsection
pub zero_byte_in_a_subsection : IsRow (codes "[a \"x\0y\"]")
    (header (quoted_header "a" " " "x\0y") ∷ [])
    (document [] (subsection "a" "x\0y" [] ∷ []))
    (HeaderToken (quoted_header "a" " " "x\0y") ∷ [])
zero_byte_in_a_subsection = row refl (search fits) refl refl

-- `;`, `#` and white space in a subsection; several blanks before it
pub marks_in_a_subsection : IsRow (codes "[1-a \t\";# \r\"]")
    (header (quoted_header "1-a" " \t" ";# \r") ∷ [])
    (document [] (subsection "1-a" ";# \r" [] ∷ []))
    (HeaderToken (quoted_header "1-a" " \t" ";# \r") ∷ [])
marks_in_a_subsection = row refl (search fits) refl refl

-- headers that follow each other directly
pub headers_without_line_ends : IsRow (codes "[a][b][a]")
    (header (plain_header "a") ∷ header (plain_header "b") ∷ header (plain_header "a") ∷ [])
    (document [] (section "a" [] ∷ section "b" [] ∷ section "a" [] ∷ []))
    (HeaderToken (plain_header "a") ∷ HeaderToken (plain_header "b") ∷ HeaderToken (plain_header "a") ∷ [])
headers_without_line_ends = row refl (search fits) refl refl

-- a header may follow a key without `=` on its line
pub header_behind_a_key : IsRow (codes "[a] k [b]")
    (header (plain_header "a") ∷ blanks " " ∷ alone "k" " " ∷ header (plain_header "b") ∷ [])
    (document [] (section "a" (key "k" ∷ []) ∷ section "b" [] ∷ []))
    (HeaderToken (plain_header "a") ∷ blank_token " " ∷ name_token "k" ∷ blank_token " " ∷ value_token "" ∷ HeaderToken (plain_header "b") ∷ [])
header_behind_a_key = row refl (search fits) refl refl

-- white space before a joint and at the start of a piece stays, that after the last piece is its own part
pub blanks_of_the_last_piece : IsRow (codes "[a] k = x \\\n y # c\n")
    (header (plain_header "a") ∷ blanks " " ∷ continued "k" " " " " (piece "x " "\n" ∷ []) " y" ∷ blanks " " ∷ comment 35 " c" ∷ line_ends "\n" ∷ [])
    (document [] (section "a" (key_value "k" "x  y" ∷ []) ∷ []))
    (HeaderToken (plain_header "a") ∷ blank_token " " ∷ name_token "k" ∷ blank_token " " ∷ SeparatorToken ∷ blank_token " " ∷ unfinished_token "x " ∷ newline_token "\n" ∷ done_token " y" ∷ blank_token " " ∷ comment_token 35 " c" ∷ newline_token "\n" ∷ [])
blanks_of_the_last_piece = row refl (search fits) refl refl

-- a joint of CR and LF
pub joint_of_two_bytes : IsRow (codes "k = x\\\r\ny\n")
    (continued "k" " " " " (piece "x" "\r\n" ∷ []) "y" ∷ line_ends "\n" ∷ [])
    (document (key_value "k" "xy" ∷ []) [])
    (name_token "k" ∷ blank_token " " ∷ SeparatorToken ∷ blank_token " " ∷ unfinished_token "x" ∷ newline_token "\r\n" ∷ done_token "y" ∷ newline_token "\n" ∷ [])
joint_of_two_bytes = row refl (search fits) refl refl

-- a last piece may be empty before a comment
pub empty_last_piece : IsRow (codes "[a]\nk = x\\\n# c\n")
    (header (plain_header "a") ∷ line_ends "\n" ∷ continued "k" " " " " (piece "x" "\n" ∷ []) "" ∷ comment 35 " c" ∷ line_ends "\n" ∷ [])
    (document [] (section "a" (key_value "k" "x" ∷ []) ∷ []))
    (HeaderToken (plain_header "a") ∷ newline_token "\n" ∷ name_token "k" ∷ blank_token " " ∷ SeparatorToken ∷ blank_token " " ∷ unfinished_token "x" ∷ newline_token "\n" ∷ done_token "" ∷ comment_token 35 " c" ∷ newline_token "\n" ∷ [])
empty_last_piece = row refl (search fits) refl refl

-- a backslash at the end of the input
pub open_continuation : IsRow (codes "[core]\na=hello\\")
    (header (plain_header "core") ∷ line_ends "\n" ∷ continued "a" "" "" (piece "hello" "" ∷ []) "" ∷ [])
    (document [] (section "core" (key_value "a" "hello" ∷ []) ∷ []))
    (HeaderToken (plain_header "core") ∷ newline_token "\n" ∷ name_token "a" ∷ SeparatorToken ∷ unfinished_token "hello" ∷ done_token "" ∷ [])
open_continuation = row refl (search fits) refl refl

-- a backslash alone at the end of the input, before the first header
pub open_continuation_without_bytes : IsRow (codes "k=\\")
    (continued "k" "" "" (piece "" "" ∷ []) "" ∷ [])
    (document (key_value "k" "" ∷ []) [])
    (name_token "k" ∷ SeparatorToken ∷ unfinished_token "" ∷ done_token "" ∷ [])
open_continuation_without_bytes = row refl (search fits) refl refl

-- a joint, a closed quote and white space, and then a backslash at the end of the input
pub open_continuation_of_a_later_piece : IsRow (codes "k=\"a\\\nb\" \\")
    (continued "k" "" "" (piece "\"a" "\n" ∷ piece "b\" " "" ∷ []) "" ∷ [])
    (document (key_value "k" "\"ab\" " ∷ []) [])
    (name_token "k" ∷ SeparatorToken ∷ unfinished_token "\"a" ∷ newline_token "\n" ∷ unfinished_token "b\" " ∷ done_token "" ∷ [])
open_continuation_of_a_later_piece = row refl (search fits) refl refl

-- FF and CR inside a value
pub white_space_inside_a_value : IsRow (codes "[a]\nk = x\u{c}y\rz\n")
    (header (plain_header "a") ∷ line_ends "\n" ∷ valued "k" " " " " "x\u{c}y\rz" ∷ line_ends "\n" ∷ [])
    (document [] (section "a" (key_value "k" "x\u{c}y\rz" ∷ []) ∷ []))
    (HeaderToken (plain_header "a") ∷ newline_token "\n" ∷ name_token "k" ∷ blank_token " " ∷ SeparatorToken ∷ blank_token " " ∷ value_token "x\u{c}y\rz" ∷ newline_token "\n" ∷ [])
white_space_inside_a_value = row refl (search fits) refl refl

-- FF is no blank, so a value may begin with it
pub form_feed_at_the_front_of_a_value : IsRow (codes "k = \u{c}x")
    (valued "k" " " " " "\u{c}x" ∷ [])
    (document (key_value "k" "\u{c}x" ∷ []) [])
    (name_token "k" ∷ blank_token " " ∷ SeparatorToken ∷ blank_token " " ∷ value_token "\u{c}x" ∷ [])
form_feed_at_the_front_of_a_value = row refl (search fits) refl refl

-- CR is no blank either
pub carriage_return_at_the_front_of_a_value : IsRow (codes "k=\rx\n")
    (valued "k" "" "" "\rx" ∷ line_ends "\n" ∷ [])
    (document (key_value "k" "\rx" ∷ []) [])
    (name_token "k" ∷ SeparatorToken ∷ value_token "\rx" ∷ newline_token "\n" ∷ [])
carriage_return_at_the_front_of_a_value = row refl (search fits) refl refl

-- `;` outside quotes ends a value
pub comment_directly_behind_a_value : IsRow (codes "k = a;c")
    (valued "k" " " " " "a" ∷ comment 59 "c" ∷ [])
    (document (key_value "k" "a" ∷ []) [])
    (name_token "k" ∷ blank_token " " ∷ SeparatorToken ∷ blank_token " " ∷ value_token "a" ∷ comment_token 59 "c" ∷ [])
comment_directly_behind_a_value = row refl (search fits) refl refl

-- `;` and `#` are between quotes, white space inside a value stays
pub quotes_inside_a_value : IsRow (codes "k = a \"b;#\" \\\"c ")
    (valued "k" " " " " "a \"b;#\" \\\"c" ∷ blanks " " ∷ [])
    (document (key_value "k" "a \"b;#\" \\\"c" ∷ []) [])
    (name_token "k" ∷ blank_token " " ∷ SeparatorToken ∷ blank_token " " ∷ value_token "a \"b;#\" \\\"c" ∷ blank_token " " ∷ [])
quotes_inside_a_value = row refl (search fits) refl refl

-- an empty value is a value
pub empty_value : IsRow (codes "k =\nj= #c")
    (valued "k" " " "" "" ∷ line_ends "\n" ∷ valued "j" "" " " "" ∷ comment 35 "c" ∷ [])
    (document (key_value "k" "" ∷ key_value "j" "" ∷ []) [])
    (name_token "k" ∷ blank_token " " ∷ SeparatorToken ∷ value_token "" ∷ newline_token "\n" ∷ name_token "j" ∷ SeparatorToken ∷ blank_token " " ∷ value_token "" ∷ comment_token 35 "c" ∷ [])
empty_value = row refl (search fits) refl refl

-- blanks after a key without `=` belong to it
pub blanks_of_a_key_alone : IsRow (codes "[s]hello             #world")
    (header (plain_header "s") ∷ alone "hello" "             " ∷ comment 35 "world" ∷ [])
    (document [] (section "s" (key "hello" ∷ []) ∷ []))
    (HeaderToken (plain_header "s") ∷ name_token "hello" ∷ blank_token "             " ∷ value_token "" ∷ comment_token 35 "world" ∷ [])
blanks_of_a_key_alone = row refl (search fits) refl refl

-- an entry before the first header belongs to the front
pub entry_before_the_first_header : IsRow (codes "a = b")
    (valued "a" " " " " "b" ∷ [])
    (document (key_value "a" "b" ∷ []) [])
    (name_token "a" ∷ blank_token " " ∷ SeparatorToken ∷ blank_token " " ∷ value_token "b" ∷ [])
entry_before_the_first_header = row refl (search fits) refl refl

-- the same four kinds of items before and after a header
pub front_and_section : IsRow (codes "\t# x\nK\n[A]\n; y")
    (blanks "\t" ∷ comment 35 " x" ∷ line_ends "\n" ∷ alone "K" "" ∷ line_ends "\n" ∷ header (plain_header "A") ∷ line_ends "\n" ∷ comment 59 " y" ∷ [])
    (document (key "K" ∷ []) (section "A" [] ∷ []))
    (blank_token "\t" ∷ comment_token 35 " x" ∷ newline_token "\n" ∷ name_token "K" ∷ value_token "" ∷ newline_token "\n" ∷ HeaderToken (plain_header "A") ∷ newline_token "\n" ∷ comment_token 59 " y" ∷ [])
front_and_section = row refl (search fits) refl refl

-- a comment that ends with the input
pub comment_alone : IsRow (codes "# c")
    (comment 35 " c" ∷ [])
    (document [] [])
    (comment_token 35 " c" ∷ [])
comment_alone = row refl (search fits) refl refl

-- a CR at the end of the input is comment text
pub carriage_return_ends_a_last_comment : IsRow (codes "# c\r")
    (comment 35 " c\r" ∷ [])
    (document [] [])
    (comment_token 35 " c\r" ∷ [])
carriage_return_ends_a_last_comment = row refl (search fits) refl refl

-- a CR before LF belongs to the line ending
pub carriage_return_of_the_line_end : IsRow (codes "# c\r\n")
    (comment 35 " c" ∷ line_ends "\r\n" ∷ [])
    (document [] [])
    (comment_token 35 " c" ∷ newline_token "\r\n" ∷ [])
carriage_return_of_the_line_end = row refl (search fits) refl refl

-- of two CRs before LF the first is comment text
pub two_carriage_returns_behind_a_comment : IsRow (codes "; c\r\r\n")
    (comment 59 " c\r" ∷ line_ends "\r\n" ∷ [])
    (document [] [])
    (comment_token 59 " c\r" ∷ newline_token "\r\n" ∷ [])
two_carriage_returns_behind_a_comment = row refl (search fits) refl refl

-- lines that end with CR and LF
pub lines_with_carriage_returns : IsRow (codes "[a]\r\nk = v\r\n")
    (header (plain_header "a") ∷ line_ends "\r\n" ∷ valued "k" " " " " "v" ∷ line_ends "\r\n" ∷ [])
    (document [] (section "a" (key_value "k" "v" ∷ []) ∷ []))
    (HeaderToken (plain_header "a") ∷ newline_token "\r\n" ∷ name_token "k" ∷ blank_token " " ∷ SeparatorToken ∷ blank_token " " ∷ value_token "v" ∷ newline_token "\r\n" ∷ [])
lines_with_carriage_returns = row refl (search fits) refl refl

-- a run of line endings may mix both kinds
pub mixed_line_ends : IsRow (codes "\n\r\n\n[a]")
    (line_ends "\n\r\n\n" ∷ header (plain_header "a") ∷ [])
    (document [] (section "a" [] ∷ []))
    (newline_token "\n\r\n\n" ∷ HeaderToken (plain_header "a") ∷ [])
mixed_line_ends = row refl (search fits) refl refl

-- blanks before a header
pub blanks_before_a_header : IsRow (codes "  [a]\n")
    (blanks "  " ∷ header (plain_header "a") ∷ line_ends "\n" ∷ [])
    (document [] (section "a" [] ∷ []))
    (blank_token "  " ∷ HeaderToken (plain_header "a") ∷ newline_token "\n" ∷ [])
blanks_before_a_header = row refl (search fits) refl refl

-- a comment of its tag alone, at the end of the input
pub comment_without_text : IsRow (codes "[a]\n#")
    (header (plain_header "a") ∷ line_ends "\n" ∷ comment 35 "" ∷ [])
    (document [] (section "a" [] ∷ []))
    (HeaderToken (plain_header "a") ∷ newline_token "\n" ∷ comment_token 35 "" ∷ [])
comment_without_text = row refl (search fits) refl refl

-- a joint at the end of the input: the last piece is empty, and the line ending belongs to the value
pub joint_at_the_end : IsRow (codes "[a]\nk = x\\\n")
    (header (plain_header "a") ∷ line_ends "\n" ∷ continued "k" " " " " (piece "x" "\n" ∷ []) "" ∷ [])
    (document [] (section "a" (key_value "k" "x" ∷ []) ∷ []))
    (HeaderToken (plain_header "a") ∷ newline_token "\n" ∷ name_token "k" ∷ blank_token " " ∷ SeparatorToken ∷ blank_token " " ∷ unfinished_token "x" ∷ newline_token "\n" ∷ done_token "" ∷ [])
joint_at_the_end = row refl (search fits) refl refl

-- a name that the input ends
pub name_at_the_end : IsRow (codes "[a]\nk")
    (header (plain_header "a") ∷ line_ends "\n" ∷ alone "k" "" ∷ [])
    (document [] (section "a" (key "k" ∷ []) ∷ []))
    (HeaderToken (plain_header "a") ∷ newline_token "\n" ∷ name_token "k" ∷ value_token "" ∷ [])
name_at_the_end = row refl (search fits) refl refl

-- entries of the front and of two sections
pub front_and_two_sections : IsRow (codes "x=0\n[A \"B\"]\nK\n[c.D] e = \"f g\"")
    (valued "x" "" "" "0" ∷ line_ends "\n" ∷ header (quoted_header "A" " " "B") ∷ line_ends "\n" ∷ alone "K" "" ∷ line_ends "\n" ∷ header (dotted_header "c" "D") ∷ blanks " " ∷ valued "e" " " " " "\"f g\"" ∷ [])
    (document (key_value "x" "0" ∷ []) (subsection "A" "B" (key "K" ∷ []) ∷ subsection "c" "d" (key_value "e" "\"f g\"" ∷ []) ∷ []))
    (name_token "x" ∷ SeparatorToken ∷ value_token "0" ∷ newline_token "\n" ∷ HeaderToken (quoted_header "A" " " "B") ∷ newline_token "\n" ∷ name_token "K" ∷ value_token "" ∷ newline_token "\n" ∷ HeaderToken (dotted_header "c" "D") ∷ blank_token " " ∷ name_token "e" ∷ blank_token " " ∷ SeparatorToken ∷ blank_token " " ∷ value_token "\"f g\"" ∷ [])
front_and_two_sections = row refl (search fits) refl refl

-- Meanings of raw texts.

pub meaning_of_plain_bytes : plain (codes "a b = [c]") ≡ codes "a b = [c]"
meaning_of_plain_bytes = refl

pub meaning_drops_quotes : plain (codes "\"a;b\" c\"\"") ≡ codes "a;b c"
meaning_drops_quotes = refl

pub meaning_of_an_open_quote : plain (codes "\"") ≡ []
meaning_of_an_open_quote = refl

-- quotes around a whole text make no difference, however often they are
pub meaning_in_many_quotes : plain (codes "\"\"a\"\"") ≡ codes "a"
meaning_in_many_quotes = refl

pub meaning_of_line_feed : plain (codes "a\\nb") ≡ codes "a\nb"
meaning_of_line_feed = refl

pub meaning_of_tab : plain (codes "\\ta") ≡ codes "\ta"
meaning_of_tab = refl

pub meaning_of_byte_eight : plain (codes "a\\b") ≡ codes "a\u{8}"
meaning_of_byte_eight = refl

pub meaning_of_quote_and_backslash : plain (codes "\\\"a\\\\") ≡ codes "\"a\\"
meaning_of_quote_and_backslash = refl

-- any other byte after a backslash is itself, also LF
pub meaning_of_other_escapes : plain (codes "\\x\\;\\\n") ≡ codes "x;\n"
meaning_of_other_escapes = refl

pub meaning_of_a_last_backslash : plain (codes "a\\") ≡ codes "a"
meaning_of_a_last_backslash = refl

pub meaning_of_white_space : plain (codes " a\r\u{c}") ≡ codes " a\r\u{c}"
meaning_of_white_space = refl

-- How meanings are written: what is written has the meaning again.

pub record IsWritten (bytes written : List ℕ) : Type 0 where
  pub written_is : escaped bytes ≡ written
  pub back : plain written ≡ bytes

pub written_empty : IsWritten [] []
written_empty = record { written_is = refl; back = refl }

pub written_plain : IsWritten (codes "a b") (codes "a b")
written_plain = record { written_is = refl; back = refl }

-- blank, `a`, `;`, quote, `b`, backslash, LF
pub written_all_kinds : IsWritten (0x20 ∷ 0x61 ∷ 0x3b ∷ 0x22 ∷ 0x62 ∷ 0x5c ∷ 0x0a ∷ []) (codes "\" a;\\\"b\\\\\\n\"")
written_all_kinds = record { written_is = refl; back = refl }

-- CR and byte 8 stay as they are
pub written_raw_bytes : IsWritten (codes "a\rb\u{8}") (codes "a\rb\u{8}")
written_raw_bytes = record { written_is = refl; back = refl }

pub written_leading_blank : IsWritten (codes " a") (codes "\" a\"")
written_leading_blank = record { written_is = refl; back = refl }

-- white space at the end: the quotes are around, and the tab is written as an escape too
pub written_trailing_tab : IsWritten (codes "a\t") (codes "\"a\\t\"")
written_trailing_tab = record { written_is = refl; back = refl }

pub written_trailing_line_feed : IsWritten (codes "a\n") (codes "\"a\\n\"")
written_trailing_line_feed = record { written_is = refl; back = refl }

-- LF inside, with no white space at either end, needs no quotes
pub written_inner_line_feed : IsWritten (codes "a\nb") (codes "a\\nb")
written_inner_line_feed = record { written_is = refl; back = refl }

pub written_form_feed_and_carriage_return : IsWritten (codes "\u{c}a\r") (codes "\"\u{c}a\r\"")
written_form_feed_and_carriage_return = record { written_is = refl; back = refl }

pub written_number_sign : IsWritten (codes "a#b") (codes "\"a#b\"")
written_number_sign = record { written_is = refl; back = refl }

pub written_semicolon : IsWritten (codes ";") (codes "\";\"")
written_semicolon = record { written_is = refl; back = refl }

pub written_quote_and_backslash : IsWritten (codes "\"\\") (codes "\\\"\\\\")
written_quote_and_backslash = record { written_is = refl; back = refl }

-- Values and headers on their own.

-- a value of two pieces before white space and a comment
pub value_of_two_pieces : IsValue (codes "x \\\n y") (codes "x  y") (codes "\t# c\n")
value_of_two_pieces = (record { pieces = piece "x " "\n" ∷ []; last = codes " y" }, refl, refl, record { front = refl; units = refl; end = inl (refl, (refl, refl)) })

-- what was written reads as one value, before a line ending and before the end
pub written_before_a_line_end : IsValue (codes "\" a;\\\"b\\\\\\n\"") (codes "\" a;\\\"b\\\\\\n\"") (codes "\r\n")
written_before_a_line_end = (
  record { pieces = []; last = codes "\" a;\\\"b\\\\\\n\"" },
  refl,
  refl,
  record { front = refl; units = refl; end = (refl, refl) },
)

pub written_before_the_end : IsValue (codes "a\rb\u{8}") (codes "a\rb\u{8}") []
written_before_the_end = (
  record { pieces = []; last = codes "a\rb\u{8}" },
  refl,
  refl,
  record { front = refl; units = refl; end = (refl, refl) },
)

pub empty_value_before_the_end : IsValue [] [] []
empty_value_before_the_end = (record { pieces = []; last = [] }, refl, refl, record { front = refl; units = refl; end = (refl, refl) })

pub header_of_one_name : IsHeader (codes "[A-1]") (codes "A-1") None
header_of_one_name = (plain_header "A-1", (lit< tt, refl), refl, refl, refl)

pub header_with_a_dot : IsHeader (codes "[Hello.World]") (codes "Hello") (Some (codes "world"))
header_with_a_dot = (dotted_header "Hello" "World", (refl, refl), refl, refl, refl)

-- letters of a quoted subsection stay
pub header_with_quotes : IsHeader (codes "[Hello \"W\\orld\"]") (codes "Hello") (Some (codes "World"))
header_with_quotes = (quoted_header "Hello" " " "W\\orld", (refl, lit< tt, refl, refl), refl, refl, refl)

-- What the definitions refuse.

pub plain_header_needs_a_name : FitsHeader (PlainHeader []) → ⊥
plain_header_needs_a_name fits = absurd (omega (arith, fits.0))

pub quoted_header_needs_a_blank : (name spelling : List ℕ) → FitsHeader (QuotedHeader name [] spelling) → ⊥
quoted_header_needs_a_blank name spelling fits = absurd (omega (arith, fits.1))

-- a bare quote, LF, LF after a backslash, a backslash at the end
pub spelling_without_quote : is_spelling (codes "a\"b") ≡ false
spelling_without_quote = refl

pub spelling_without_line_feed : is_spelling (codes "a\nb") ≡ false
spelling_without_line_feed = refl

pub spelling_without_escaped_line_feed : is_spelling (codes "a\\\nb") ≡ false
spelling_without_escaped_line_feed = refl

pub spelling_without_open_backslash : is_spelling (codes "a\\") ≡ false
spelling_without_open_backslash = refl

-- any other byte may follow a backslash, also CR
pub spelling_with_escapes : is_spelling (codes "\\\"\\\\\\n\\\r") ≡ true
spelling_with_escapes = refl

pub value_name_has_a_byte : is_value_name [] ≡ false
value_name_has_a_byte = refl

pub value_name_begins_with_a_letter : is_value_name (codes "1a") ≡ false
value_name_begins_with_a_letter = refl

pub value_name_begins_with_no_dash : is_value_name (codes "-a") ≡ false
value_name_begins_with_no_dash = refl

pub value_name_has_no_dot : is_value_name (codes "a.2") ≡ false
value_name_has_no_dot = refl

pub value_name_has_no_mark : is_value_name (codes "##") ≡ false
value_name_has_no_mark = refl

pub value_name_has_no_quote : is_value_name (codes "\"") ≡ false
value_name_has_no_quote = refl

pub value_name_with_digit_and_dash : is_value_name (codes "A1-b") ≡ true
value_name_with_digit_and_dash = refl

pub open_quote_in_a_value : are_paired false (units_of (codes "\"v")) ≡ false
open_quote_in_a_value = refl

pub bare_mark_in_a_value : are_paired false (units_of (codes "a;b")) ≡ false
bare_mark_in_a_value = refl

pub unknown_escape_in_a_value : are_paired false (units_of (codes "\\x")) ≡ false
unknown_escape_in_a_value = refl

-- CR after a backslash is no joint without LF
pub carriage_return_behind_a_backslash : are_paired false (units_of (codes "a\\\r")) ≡ false
carriage_return_behind_a_backslash = refl

pub line_feed_in_quotes : are_paired false (units_of (codes "\"a\nb\"")) ≡ false
line_feed_in_quotes = refl

pub open_quote_before_a_last_backslash : are_paired false (units_of (codes "\"x")) ≡ false
open_quote_before_a_last_backslash = refl

-- after white space only LF, a comment or the end follows a value
pub no_value_before_more : may_follow_value (codes " b") ≡ false
no_value_before_more = refl

-- a CR before LF is no comment text
pub comment_without_the_line_end : ends_comment (codes " c\r") (codes "\n") ≡ false
comment_without_the_line_end = refl
