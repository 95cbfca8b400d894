-- Copies of what is in one buffer, added to another.
use Rattle.std.specs.Prelude.{◌≡◌, ℕ, ◌+◌, ◌<◌, ◌^◌, List, [], ◌∷◌, length, Option, Some, None}
use Rattle.gitconf_text.specs.Header.{Header, PlainHeader, DottedHeader, QuotedHeader}
use Rattle.gitconf_text.specs.Part.{Assigned, Entry, Item, BlanksItem, LineEndsItem, CommentItem, EntryItem}
use Rattle.gitconf_text.specs.Value.{Piece, Value}
use Rattle.gitconf_items.specs.ShownEvents.{IsExtended}

-- the new buffer is the old one with bytes after it, and is below the limit
pub record IsLonger (old new : List ℕ) : Type 0 where
  pub extended : IsExtended old new
  pub room : length new < 2 ^ 32

-- The copy is within its buffer, and says there what the old thing says in its own. `says`: what a thing says in a buffer; `ends`: that it
-- ends within that many bytes.
pub record IsCopy {A B : Type 0} (says : List ℕ → A → B) (ends : ℕ → A → Type 0) (from to : List ℕ) (old copy : A) : Type 0 where
  pub within : ends (length to) copy
  pub same : says to copy ≡ says from old

-- How many bytes a copy puts into its buffer: those of a header and of items, but for brackets and quotes, `=`, the tag of a comment, and the
-- backslash after a piece, which are in no buffer.
abbrev pub piece_size : Piece → ℕ
piece_size p = length p.text + length p.line_end

abbrev pub pieces_size : List Piece → ℕ
pieces_size [] = 0
pieces_size (p ∷ ps) = piece_size p + pieces_size ps

abbrev pub value_size : Value → ℕ
value_size v = pieces_size v.pieces + length v.last

abbrev pub assigned_size : Option Assigned → ℕ
assigned_size None = 0
assigned_size (Some a) = length a.blanks + value_size a.value

abbrev pub entry_size : Entry → ℕ
entry_size e = length e.name + (length e.blanks + assigned_size e.assigned)

abbrev pub item_size : Item → ℕ
item_size (BlanksItem run) = length run
item_size (LineEndsItem run) = length run
item_size (CommentItem tag text) = length text
item_size (EntryItem e) = entry_size e

abbrev pub items_size : List Item → ℕ
items_size [] = 0
items_size (i ∷ is) = item_size i + items_size is

abbrev pub header_size : Header → ℕ
header_size (PlainHeader name) = length name
header_size (DottedHeader name subsection) = length name + (1 + length subsection)
header_size (QuotedHeader name blanks spelling) = length name + (length blanks + length spelling)
