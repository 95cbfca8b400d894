-- The spans of items end within the buffer that they are offsets of.
use Rattle.std.specs.Prelude.{ℕ, List}
use Rattle.std.specs.List.{AllByRecursion}
use Rattle.gitconf_items.specs.declared.event.Event.{Event}
use Rattle.gitconf_items.specs.declared.entry.Piece.{Piece}
use Rattle.gitconf_items.specs.declared.entry.Value.{Value}
use Rattle.gitconf_items.specs.declared.entry.Assigned.{Assigned}
use Rattle.gitconf_items.specs.declared.entry.Assigned.TheVariants as assigned
use Rattle.gitconf_items.specs.declared.entry.EntryParts.{EntryParts}
use Rattle.gitconf_items.specs.declared.items.Item.{Item}
use Rattle.gitconf_items.specs.declared.items.Section.{Section}
use Rattle.gitconf_items.specs.declared.items.Item.TheVariants as kinds
use Rattle.gitconf_items.specs.Events.{SpanFits, HeaderFits, EventFits}

-- both spans of the piece end within a buffer of this many bytes
abbrev pub PieceFits : (limit : ℕ) → Piece → Type 0
PieceFits limit p = SpanFits limit p.text × SpanFits limit p.line_end

-- all spans of the value end within a buffer of this many bytes
abbrev pub ValueFits : (limit : ℕ) → Value → Type 0
ValueFits limit v = AllByRecursion (PieceFits limit) v.pieces.items × SpanFits limit v.last

-- all spans of what is assigned end within a buffer of this many bytes
abbrev pub AssignedFits : (limit : ℕ) → Assigned → Type 0
AssignedFits limit assigned.Nothing = Unit {0}
AssignedFits limit (assigned.Plain blanks value) = SpanFits limit blanks × SpanFits limit value
AssignedFits limit (assigned.Continued c) = SpanFits limit c.blanks × ValueFits limit c.value

-- all spans of the entry end within a buffer of this many bytes
abbrev pub EntryFits : (limit : ℕ) → EntryParts → Type 0
EntryFits limit e = SpanFits limit e.name × SpanFits limit e.blanks × AssignedFits limit e.assigned

-- all spans of the item end within a buffer of this many bytes
abbrev pub ItemFits : (limit : ℕ) → Item → Type 0
ItemFits limit (kinds.Blanks run) = SpanFits limit run
ItemFits limit (kinds.LineEnds run) = SpanFits limit run
ItemFits limit (kinds.Comment tag text) = SpanFits limit text
ItemFits limit (kinds.Entry e) = EntryFits limit e

-- all spans of the items end within a buffer of this many bytes
abbrev pub AreItemsWithin : (limit : ℕ) → List Item → Type 0
AreItemsWithin limit items = AllByRecursion (ItemFits limit) items

-- all spans of the section end within a buffer of this many bytes
abbrev pub SectionFits : (limit : ℕ) → Section → Type 0
SectionFits limit s = HeaderFits limit s.header × AreItemsWithin limit s.items.items

-- all spans of the events end within a buffer of this many bytes
abbrev pub EventsWithin : (limit : ℕ) → List Event → Type 0
EventsWithin limit events = AllByRecursion (EventFits limit) events
