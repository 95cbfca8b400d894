-- What is read to items, in terms of the functional reader; only proofs and private functions see it.
use Rattle.std.specs.Prelude.{◌≡◌, ◌≤◌, ◌<◌, ◌+◌, ℕ, List, [], ◌∷◌, ◌++◌, drop, length, map, Ok, Err}
use Rattle.gitconf_text.specs.Part.{EntryItem}
use Rattle.gitconf_text.specs.Token.{Token, NameToken, WhitespaceToken, SeparatorToken, filled, item_tokens}
use Rattle.gitconf_items.specs.declared.event.Span.{Span}
use Rattle.gitconf_items.specs.declared.entry.EntryParts.{EntryParts}
use Rattle.gitconf_items.specs.declared.event.Event.{Event}
use Rattle.gitconf_read.specs.declared.reading.Expected.{Expected}
use Rattle.gitconf_read.specs.declared.reading.ReadError.{ReadError}
use Rattle.gitconf_read.specs.declared.reading.value.PieceEnd.{PieceEnd}
use Rattle.gitconf_read.specs.declared.reading.value.PieceEnd.TheVariants as ends
use Rattle.gitconf_items.specs.declared.items.Item.{Item}
use Rattle.gitconf_items.specs.declared.items.Keep.{Keep}
use Rattle.gitconf_items.specs.Events.{bytes_of, token_of}
use Rattle.gitconf_items.specs.Items.{entry_of, tokens_of_items}
use Rattle.gitconf_items.specs.ItemsFit.{AreItemsWithin}
use Rattle.gitconf_read.specs.Reading.{Read, Gives, value_at, part_at}
use Rattle.gitconf_items.specs.TokenDocument.{tokens_kept}

-- the piece that began at an offset ends after it, within a text of that many bytes
abbrev pub EndsWithin : (from limit : ℕ) → PieceEnd → Type 0
EndsWithin from limit (ends.Last end) = (from ≤ end) × (end ≤ limit)
EndsWithin from limit (ends.GoesOn at line_end quoted) = (from ≤ at) × (0 < line_end) × (at + 1 + line_end ≤ limit)
EndsWithin from limit (ends.Unended at) = (from ≤ at) × (at + 1 ≤ limit)
EndsWithin from limit ends.Refused = Unit {0}

-- The reader reads events with these tokens, and ends there.
pub record IsReadTo (input : List ℕ) (reads : Read) (end : ℕ) (tokens : List Token) : Type 0 where
  pub events : List Event
  pub read : reads ≡ Ok (events, end)
  pub tokens_are : map (token_of input) events ≡ tokens

-- the reader refuses the text for this cause, or memory ran out
abbrev pub IsRefusal : (reads : Read) → ReadError → Type 0
IsRefusal reads e = Gives (Err e) [] reads

-- The value that begins at an offset is read to events with these tokens, whatever comes before them, and ends there.
pub record IsValueRead (input : List ℕ) (first end : ℕ) (tokens : List Token) : Type 0 where
  pub events : List Event
  pub read : (before : List Event) → value_at first before (drop first input) ≡ Ok (before ++ events, end)
  pub tokens_are : map (token_of input) events ≡ tokens

-- the value that begins at an offset is refused for this cause, or memory ran out
abbrev pub IsValueRefusal : (input : List ℕ) (first : ℕ) → ReadError → Type 0
IsValueRefusal input first e = (before : List Event) → IsRefusal (value_at first before (drop first input)) e

-- An entry with a name, the blanks after it, `=` and the blanks after that, whose value begins at the offset `first`, and ends there.
pub record IsEntryWith (input : List ℕ) (name blanks behind : Span) (first : ℕ) (entry : EntryParts) (end : ℕ) : Type 0 where
  pub tokens : List Token
  pub value : IsValueRead input first end tokens
  pub told : item_tokens (EntryItem (entry_of input entry))
      ≡ NameToken (bytes_of input name) ∷ (filled WhitespaceToken (bytes_of input blanks) ++ (SeparatorToken ∷ (filled WhitespaceToken (bytes_of input behind) ++ tokens)))

-- One more item was read, at an offset, and ends at `end`; this is kept of it.
pub record IsKeptRead (keep : Keep) (input : List ℕ) (at : ℕ) (wanted : Expected) (old new : List Item) (end : ℕ) : Type 0 where
  pub tokens : List Token
  pub kept : List Item
  pub put : new ≡ old ++ kept
  pub told : tokens_of_items input kept ≡ tokens_kept keep tokens
  pub read : IsReadTo input (part_at input at wanted []) end tokens
  pub fits : AreItemsWithin (length input) kept
