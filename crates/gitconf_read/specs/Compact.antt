-- Events as they are kept: in 12 bytes each, with the headers in a list of their own.
use Rattle.std.specs.Prelude.{◌≡◌, ℕ, ◌<◌, Bool, true, false, List, ◌∷◌, ◌++◌, length, get_or, set, map, None}
use Rattle.std.specs.List.{AllByRecursion}
use Rattle.gitconf_items.specs.declared.event.Header.{Header}
use Rattle.gitconf_items.specs.declared.event.Event.{Event}
use Rattle.gitconf_items.specs.declared.event.Event.TheVariants as kinds
use Rattle.gitconf_items.specs.Events.{header_of}
use Rattle.gitconf_items.specs.ShownEvents.{IsShown, IsExtended}
use Rattle.gitconf_items.specs.Sections.{is_header_event, front_of, sections_of, is_cut}
use Rattle.gitconf_read.specs.declared.compact.Compact.{Compact}
use Rattle.gitconf_read.specs.declared.compact.Compact.TheVariants as kept
use Rattle.gitconf_read.specs.declared.compact.EventSlice.{EventSlice}

-- the header that is read at a place that has none
abbrev pub no_header : Header
no_header = record { name = record { start = 0; len = 0 }; separator = None; subsection = None; decoded = None }

-- the event that is kept in this form; a header is looked up in the list
abbrev pub event_at : (headers : List Header) → Compact → Event
event_at headers (kept.Comment tag text) = kinds.Comment tag text
event_at headers (kept.SectionHeader place) = kinds.SectionHeader (get_or headers place no_header)
event_at headers (kept.SectionValueName s) = kinds.SectionValueName s
event_at headers (kept.Value s) = kinds.Value s
event_at headers (kept.Newline s) = kinds.Newline s
event_at headers (kept.ValueNotDone s) = kinds.ValueNotDone s
event_at headers (kept.ValueDone s) = kinds.ValueDone s
event_at headers (kept.Whitespace s) = kinds.Whitespace s
event_at headers kept.KeyValueSeparator = kinds.KeyValueSeparator

-- the events that a list keeps, in order
abbrev pub events_in : (headers : List Header) → List Compact → List Event
events_in headers list = map (event_at headers) list

-- the events of a slice
abbrev pub events_of : EventSlice → List Event
events_of s = events_in s.headers.now s.list.now

-- a header's place is below that many
abbrev pub StandsAmong : (count : ℕ) → Compact → Type 0
StandsAmong count (kept.SectionHeader place) = place < count
StandsAmong count _ = Unit {0}

-- each place below that many is a header's in the list
abbrev pub AreNamed : (count : ℕ) → List Compact → Type 0
AreNamed count list = (k : ℕ) → k < count → (i : ℕ) × (i < length list) × (get_or list i kept.KeyValueSeparator ≡ kept.SectionHeader k)

-- the list names only headers below that many, and each of them
pub record IsCompact (count : ℕ) (list : List Compact) : Type 0 where
  pub stand : AllByRecursion (StandsAmong count) list
  pub named : AreNamed count list

-- what is kept is a header
abbrev pub is_kept_header : Compact → Bool
is_kept_header (kept.SectionHeader place) = true
is_kept_header _ = false

-- The section is the first event with those after it up to the next header, and the others begin with that header, if there is one.
pub record IsSectionFirst (all section others : List Event) : Type 0 where
  pub first : Event
  pub behind : List Event
  pub all_are : all ≡ first ∷ behind
  pub joined : section ++ others ≡ all
  pub section_is : section ≡ first ∷ front_of is_header_event behind
  pub others_are : sections_of is_header_event others ≡ sections_of is_header_event behind
  pub cut : is_cut is_header_event others ≡ true

-- The header at a place got its decoded copy: it reads the same, and is shown as its token is. Copies were added at the end.
pub record IsDecodedAt (buffer old new : List ℕ) (place : ℕ) (before after : List Header) : Type 0 where
  pub header : Header
  pub after_is : after ≡ set before place header
  pub same : header_of buffer header ≡ header_of buffer (get_or before place no_header)
  pub shown : IsShown buffer new (kinds.SectionHeader header)
  pub extended : IsExtended old new

-- The first `count` headers got their copies, and all headers read the same.
pub record AreDecoded (buffer copies : List ℕ) (count : ℕ) (before after : List Header) : Type 0 where
  pub len : length after ≡ length before
  pub same : (k : ℕ) → header_of buffer (get_or after k no_header) ≡ header_of buffer (get_or before k no_header)
  pub shown : (k : ℕ) → k < count → IsShown buffer copies (kinds.SectionHeader (get_or after k no_header))
