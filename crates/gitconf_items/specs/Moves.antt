-- Items and headers whose bytes come after other bytes, so that their spans are moved.
use Rattle.std.specs.Prelude.{◌≡◌, ℕ, ◌+◌, List, ◌++◌, length, map, Option}
use Rattle.std.specs.List.{AllByRecursion}
use Rattle.std.specs.Option.{option_map}
use Rattle.gitconf_items.specs.declared.event.Header.{Header}
use Rattle.gitconf_items.specs.declared.event.Copied.{Copied}
use Rattle.gitconf_items.specs.declared.event.Span.{Span}
use Rattle.gitconf_items.specs.declared.entry.Continued.{Continued}
use Rattle.gitconf_items.specs.declared.items.Item.{Item}
use Rattle.gitconf_items.specs.declared.entry.Piece.{Piece}
use Rattle.gitconf_items.specs.Events.{bytes_of, OptionFits, SpanFits}
use Rattle.gitconf_items.specs.Items.{piece_of, value_of, items_of}
use Rattle.gitconf_items.specs.ItemsFit.{AreItemsWithin, PieceFits, ValueFits}
use Rattle.gitconf_items.specs.ShownEvents.{copied, CopyFits}
use Rattle.gitconf_text.specs.Part as parts
use Rattle.gitconf_text.specs.Value as grammar

-- If `by` bytes are put before those of a buffer, `new` says in the longer buffer what `old` said in the old one, and ends within it where
-- `old` ended within the old one. `says`: what a thing says in a buffer; `ends`: that it ends within that many bytes.
pub record IsMoved {A B : Type 0} (says : List ℕ → A → B) (ends : ℕ → A → Type 0) (by : ℕ) (old new : A) : Type 0 where
  pub same : (before buffer : List ℕ) → length before ≡ by → says (before ++ buffer) new ≡ says buffer old
  pub within : (limit : ℕ) → ends limit old → ends (by + limit) new

-- what the pieces of a value say
abbrev pub pieces_of : (buffer : List ℕ) → List Piece → List grammar.Piece
pieces_of buffer pieces = map (piece_of buffer) pieces

-- the spans of all pieces end within a buffer of this many bytes
abbrev pub PiecesFit : (limit : ℕ) → List Piece → Type 0
PiecesFit limit pieces = AllByRecursion (PieceFits limit) pieces

-- what a value of several pieces says, with the blanks before it
abbrev pub continued_of : (buffer : List ℕ) → Continued → parts.Assigned
continued_of buffer c = record { blanks = bytes_of buffer c.blanks; value = value_of buffer c.value }

-- all spans of a value of several pieces, and of the blanks before it, end within a buffer of this many bytes
abbrev pub ContinuedFits : (limit : ℕ) → Continued → Type 0
ContinuedFits limit c = SpanFits limit c.blanks × ValueFits limit c.value

-- the bytes of a span, if there is one
abbrev pub option_bytes_of : (buffer : List ℕ) → Option Span → Option (List ℕ)
option_bytes_of buffer o = option_map (bytes_of buffer) o

-- a decoded copy, if there is one
abbrev pub copy_of : (copies : List ℕ) → Option Copied → Option (List ℕ)
copy_of copies o = option_map (copied copies) o

-- a header moved by that many bytes, and its decoded copy moved by that many bytes of copies
pub record IsHeaderMoved (by copies_by : ℕ) (old new : Header) : Type 0 where
  pub name : IsMoved bytes_of SpanFits by old.name new.name
  pub separator : IsMoved option_bytes_of OptionFits by old.separator new.separator
  pub subsection : IsMoved option_bytes_of OptionFits by old.subsection new.subsection
  pub decoded : IsMoved copy_of CopyFits copies_by old.decoded new.decoded

-- items moved by that many bytes
abbrev pub AreItemsMoved : (by : ℕ) → (old new : List Item) → Type 0
AreItemsMoved by old new = IsMoved items_of AreItemsWithin by old new
