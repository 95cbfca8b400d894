-- What is shown of events: their tokens, with a subsection decoded.
use Rattle.std.specs.Prelude.{◌≡◌, ℕ, ◌+◌, ◌≤◌, List, [], ◌∷◌, ◌++◌, length, Option, Some, None, take, drop}
use Rattle.std.specs.Option.{option_map}
use Rattle.gitconf_text.specs.Header.{Header, PlainHeader, DottedHeader, QuotedHeader, name_of, subsection_of}
use Rattle.gitconf_text.specs.Token.{Token, CommentToken, HeaderToken, NameToken, ValueToken, NewlineToken, ValueNotDoneToken, ValueDoneToken, WhitespaceToken, SeparatorToken}
use Rattle.gitconf_items.specs.declared.event.Copied.{Copied}
use Rattle.gitconf_items.specs.declared.event.Header.{Header as Spans}
use Rattle.gitconf_items.specs.declared.event.Event.{Event}
use Rattle.gitconf_items.specs.declared.event.Event.TheVariants as kinds
use Rattle.gitconf_items.specs.EventRef.{Shown, ShownComment, ShownHeader, ShownValueName, ShownValue, ShownNewline, ShownUnfinished, ShownLast, ShownBlanks, ShownSeparator}
use Rattle.gitconf_items.specs.Events.{bytes_of, token_of, EventFits}

-- the dot, or the blanks before the quote
abbrev pub separator_of : Header → Option (List ℕ)
separator_of (PlainHeader name) = None
separator_of (DottedHeader name subsection) = Some (46 ∷ [])
separator_of (QuotedHeader name blanks spelling) = Some blanks

-- what is shown of a token: of a header its name, its separator and its decoded subsection, otherwise its bytes
abbrev pub shown_token : Token → Shown
shown_token (CommentToken tag text) = ShownComment tag text
shown_token (HeaderToken h) = ShownHeader (name_of h) (separator_of h) (subsection_of h)
shown_token (NameToken bytes) = ShownValueName bytes
shown_token (ValueToken bytes) = ShownValue bytes
shown_token (NewlineToken bytes) = ShownNewline bytes
shown_token (ValueNotDoneToken bytes) = ShownUnfinished bytes
shown_token (ValueDoneToken bytes) = ShownLast bytes
shown_token (WhitespaceToken bytes) = ShownBlanks bytes
shown_token SeparatorToken = ShownSeparator

-- a decoded copy, in the buffer of such copies
abbrev pub copied : (copies : List ℕ) → Copied → List ℕ
copied copies c = take c.len (drop c.start copies)

-- the decoded copy, if there is one, otherwise what is spelled
abbrev pub decoded_or : (copies : List ℕ) → Option Copied → Option (List ℕ) → Option (List ℕ)
decoded_or copies None spelled = spelled
decoded_or copies (Some c) spelled = Some (copied copies c)

-- what a header's spans show
abbrev pub shown_header : (buffer copies : List ℕ) → Spans → Shown
shown_header buffer copies h =
    ShownHeader (bytes_of buffer h.name) (option_map (bytes_of buffer) h.separator) (decoded_or copies h.decoded (option_map (bytes_of buffer) h.subsection))

-- what an event's spans show
abbrev pub shown_event : (buffer copies : List ℕ) → Event → Shown
shown_event buffer copies (kinds.Comment tag text) = ShownComment tag (bytes_of buffer text)
shown_event buffer copies (kinds.SectionHeader h) = shown_header buffer copies h
shown_event buffer copies (kinds.SectionValueName s) = ShownValueName (bytes_of buffer s)
shown_event buffer copies (kinds.Value s) = ShownValue (bytes_of buffer s)
shown_event buffer copies (kinds.Newline s) = ShownNewline (bytes_of buffer s)
shown_event buffer copies (kinds.ValueNotDone s) = ShownUnfinished (bytes_of buffer s)
shown_event buffer copies (kinds.ValueDone s) = ShownLast (bytes_of buffer s)
shown_event buffer copies (kinds.Whitespace s) = ShownBlanks (bytes_of buffer s)
shown_event buffer copies kinds.KeyValueSeparator = ShownSeparator

-- the copy, if there is one, is within the buffer of copies
abbrev pub CopyFits : (limit : ℕ) → Option Copied → Type 0
CopyFits limit None = Unit {0}
CopyFits limit (Some c) = c.start + c.len ≤ limit

-- the event's decoded copy, if it has one, is within the buffer of copies
abbrev pub EventCopyFits : (limit : ℕ) → Event → Type 0
EventCopyFits limit (kinds.SectionHeader h) = CopyFits limit h.decoded
EventCopyFits limit _ = Unit {0}

-- the event is shown as its token is, and its spans and its copy are within their buffers
pub record IsShown (buffer copies : List ℕ) (e : Event) : Type 0 where
  pub fits : EventFits (length buffer) e
  pub copy_fits : EventCopyFits (length copies) e
  pub shown : shown_event buffer copies e ≡ shown_token (token_of buffer e)

-- the new list begins with the old one
abbrev pub IsExtended : (old new : List ℕ) → Type 0
IsExtended old new = (more : List ℕ) × (new ≡ old ++ more)
