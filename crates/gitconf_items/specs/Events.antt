-- What the parser's events stand for, in the buffer that their spans are offsets of.
use Rattle.std.specs.Prelude.{ℕ, ◌+◌, ◌≤◌, List, [], ◌∷◌, Option, Some, None, is_some, ◌≡◌, take, drop, if◌then◌else◌}
use Rattle.std.specs.Str.{bytes_eq}
use Rattle.gitconf_text.specs.Header as grammar
use Rattle.gitconf_text.specs.Token.{Token, CommentToken, HeaderToken, NameToken, ValueToken, NewlineToken, ValueNotDoneToken, ValueDoneToken, WhitespaceToken, SeparatorToken}
use Rattle.gitconf_items.specs.declared.event.Span.{Span}
use Rattle.gitconf_items.specs.declared.event.Header.{Header}
use Rattle.gitconf_items.specs.declared.event.Event.{Event}
use Rattle.gitconf_items.specs.declared.event.Event.TheVariants as kinds

-- the bytes that a span names
abbrev pub bytes_of : (buffer : List ℕ) → Span → List ℕ
bytes_of buffer s = take s.len (drop s.start buffer)

-- a header is plain without a separator, dotted if that is a dot alone, otherwise quoted
abbrev pub header_form : (buffer name : List ℕ) → (separator subsection : Option Span) → grammar.Header
header_form buffer name None subsection = grammar.PlainHeader name
header_form buffer name (Some separator) None = grammar.PlainHeader name
header_form buffer name (Some separator) (Some subsection) =
    if bytes_eq (bytes_of buffer separator) (46 ∷ []) then grammar.DottedHeader name (bytes_of buffer subsection)
    else grammar.QuotedHeader name (bytes_of buffer separator) (bytes_of buffer subsection)

-- the header that the spans of a header name
abbrev pub header_of : (buffer : List ℕ) → Header → grammar.Header
header_of buffer h = header_form buffer (bytes_of buffer h.name) h.separator h.subsection

-- the token of an event: its kind, with the bytes that its spans name
abbrev pub token_of : (buffer : List ℕ) → Event → Token
token_of buffer (kinds.Comment tag text) = CommentToken tag (bytes_of buffer text)
token_of buffer (kinds.SectionHeader h) = HeaderToken (header_of buffer h)
token_of buffer (kinds.SectionValueName s) = NameToken (bytes_of buffer s)
token_of buffer (kinds.Value s) = ValueToken (bytes_of buffer s)
token_of buffer (kinds.Newline s) = NewlineToken (bytes_of buffer s)
token_of buffer (kinds.ValueNotDone s) = ValueNotDoneToken (bytes_of buffer s)
token_of buffer (kinds.ValueDone s) = ValueDoneToken (bytes_of buffer s)
token_of buffer (kinds.Whitespace s) = WhitespaceToken (bytes_of buffer s)
token_of buffer kinds.KeyValueSeparator = SeparatorToken

-- the span ends within a buffer of this many bytes
abbrev pub SpanFits : (limit : ℕ) → Span → Type 0
SpanFits limit s = s.start + s.len ≤ limit

-- a span, if there is one, ends within a buffer of this many bytes
abbrev pub OptionFits : (limit : ℕ) → Option Span → Type 0
OptionFits limit None = Unit {0}
OptionFits limit (Some s) = SpanFits limit s

-- all spans of the header end within a buffer of this many bytes, and it has both a separator and a subsection, or neither
pub record HeaderFits (limit : ℕ) (h : Header) : Type 0 where
  pub name : SpanFits limit h.name
  pub separator : OptionFits limit h.separator
  pub subsection : OptionFits limit h.subsection
  pub both : is_some h.separator ≡ is_some h.subsection

-- all spans of the event end within the buffer
abbrev pub EventFits : (limit : ℕ) → Event → Type 0
EventFits limit (kinds.Comment tag text) = SpanFits limit text
EventFits limit (kinds.SectionHeader h) = HeaderFits limit h
EventFits limit (kinds.SectionValueName s) = SpanFits limit s
EventFits limit (kinds.Value s) = SpanFits limit s
EventFits limit (kinds.Newline s) = SpanFits limit s
EventFits limit (kinds.ValueNotDone s) = SpanFits limit s
EventFits limit (kinds.ValueDone s) = SpanFits limit s
EventFits limit (kinds.Whitespace s) = SpanFits limit s
EventFits limit kinds.KeyValueSeparator = Unit {0}
