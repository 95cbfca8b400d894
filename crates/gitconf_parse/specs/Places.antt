-- Where parts, entries and values are in a text, in terms of the functional reader; only proofs and private functions see it.
use Rattle.std.specs.Prelude.{◌≡◌, ◌≤◌, ℕ, List, [], drop, map, Ok, Err, Option, Some, None}
use Rattle.std.specs.List.{flat_map}
use Rattle.std.specs.Option.{option_map}
use Rattle.gitconf_text.specs.Part.{Entry, EntryItem}
use Rattle.gitconf_text.specs.Token.{Token, ValueToken, ValueNotDoneToken, ValueDoneToken, item_tokens}
use Rattle.gitconf_items.specs.Events.{bytes_of, token_of}
use Rattle.gitconf_read.specs.declared.reading.Expected.TheVariants as expected
use Rattle.gitconf_read.specs.declared.reading.ReadError.TheVariants as errors
use Rattle.gitconf_read.specs.ItemReading.{IsReadTo, IsValueRefusal}
use Rattle.gitconf_read.specs.Reading.{span, value_at, entry_at}
use Rattle.gitconf_parse.specs.declared.lookup.entry.EntryPlace.{EntryPlace}
use Rattle.gitconf_parse.specs.Met.{raw_assigned}

-- no value can be read at an offset
abbrev pub IsNoValue : (input : List ℕ) → (first : ℕ) → Type 0
IsNoValue input first = IsValueRefusal input first (errors.Fault (record { at = first; expected = expected.Value }))

-- what a token adds to the raw text of a value
abbrev pub raw_bytes : Token → List ℕ
raw_bytes (ValueToken bytes) = bytes
raw_bytes (ValueNotDoneToken bytes) = bytes
raw_bytes (ValueDoneToken bytes) = bytes
raw_bytes _ = []

-- the raw text of the value that begins at an offset; no bytes if no value does
abbrev pub raw_at : (input : List ℕ) → (first : ℕ) → List ℕ
raw_at input first = elim (value_at first [] (drop first input)) [ Err f ↦ [] | Ok read ↦ flat_map raw_bytes (map (token_of input) read.0) ]

-- the offset of a value, if there is one, is within a text of this many bytes
abbrev pub ValueInside : (limit : ℕ) → Option ℕ → Type 0
ValueInside limit None = Unit {0}
ValueInside limit (Some first) = first ≤ limit

-- The entry whose name begins at an offset is at this place.
pub record IsEntryRead (input : List ℕ) (at : ℕ) (place : EntryPlace) : Type 0 where
  pub entry : Entry
  pub read : IsReadTo input (entry_at input at []) place.end (item_tokens (EntryItem entry))
  pub name : entry.name ≡ bytes_of input (span at place.name_end)
  pub raw : raw_assigned entry.assigned ≡ option_map (raw_at input) place.value
