-- Facts about spans have at most one proof, so that an iterator may keep them.
use Rattle.std.specs.Prelude.{ℕ, List, length, Option, Some, None}
use Rattle.std.specs.List.{AllByRecursion, AllByRecursion-prop}
use Rattle.std.specs.Coded.{Unit-prop}
use Rattle.std.proofs.Math.Bridge.{le_prop}
use Rattle.std.proofs.Math.Bool.{Bool-set}
use Rattle.gitconf_items.specs.declared.event.Span.{Span}
use Rattle.gitconf_items.specs.declared.event.Copied.{Copied}
use Rattle.gitconf_items.specs.declared.event.Header.{Header}
use Rattle.gitconf_items.specs.declared.event.Event.{Event}
use Rattle.gitconf_items.specs.declared.event.Event.TheVariants as kinds
use Rattle.gitconf_items.specs.Events.{SpanFits, OptionFits, HeaderFits, EventFits}
use Rattle.gitconf_items.specs.ShownEvents.{CopyFits, EventCopyFits}

-- the event's spans and its copy are within buffers of these lengths
abbrev pub IsWithin : (limit copies : ℕ) → Event → Type 0
IsWithin limit copies e = EventFits limit e × EventCopyFits copies e

SpanFits-prop : (limit : ℕ) (s : Span) → IsProp (SpanFits limit s)
SpanFits-prop limit s = le_prop

OptionFits-prop : (limit : ℕ) (o : Option Span) → IsProp (OptionFits limit o)
OptionFits-prop limit None = Unit-prop
OptionFits-prop limit (Some s) = SpanFits-prop limit s

HeaderFits-prop : (limit : ℕ) (h : Header) → IsProp (HeaderFits limit h)
HeaderFits-prop limit h = hlevel (le_prop, OptionFits-prop, Bool-set)

EventFits-prop : (limit : ℕ) (e : Event) → IsProp (EventFits limit e)
EventFits-prop limit (kinds.Comment tag text) = SpanFits-prop limit text
EventFits-prop limit (kinds.SectionHeader h) = HeaderFits-prop limit h
EventFits-prop limit (kinds.SectionValueName s) = SpanFits-prop limit s
EventFits-prop limit (kinds.Value s) = SpanFits-prop limit s
EventFits-prop limit (kinds.Newline s) = SpanFits-prop limit s
EventFits-prop limit (kinds.ValueNotDone s) = SpanFits-prop limit s
EventFits-prop limit (kinds.ValueDone s) = SpanFits-prop limit s
EventFits-prop limit (kinds.Whitespace s) = SpanFits-prop limit s
EventFits-prop limit kinds.KeyValueSeparator = Unit-prop

CopyFits-prop : (limit : ℕ) (c : Option Copied) → IsProp (CopyFits limit c)
CopyFits-prop limit None = Unit-prop
CopyFits-prop limit (Some c) = le_prop

EventCopyFits-prop : (limit : ℕ) (e : Event) → IsProp (EventCopyFits limit e)
EventCopyFits-prop limit (kinds.SectionHeader h) = CopyFits-prop limit h.decoded
EventCopyFits-prop limit (kinds.Comment tag text) = Unit-prop
EventCopyFits-prop limit (kinds.SectionValueName s) = Unit-prop
EventCopyFits-prop limit (kinds.Value s) = Unit-prop
EventCopyFits-prop limit (kinds.Newline s) = Unit-prop
EventCopyFits-prop limit (kinds.ValueNotDone s) = Unit-prop
EventCopyFits-prop limit (kinds.ValueDone s) = Unit-prop
EventCopyFits-prop limit (kinds.Whitespace s) = Unit-prop
EventCopyFits-prop limit kinds.KeyValueSeparator = Unit-prop

IsWithin-prop : (limit copies : ℕ) (e : Event) → IsProp (IsWithin limit copies e)
IsWithin-prop limit copies e = hlevel (EventFits-prop, EventCopyFits-prop)

-- all events are within their buffers
abbrev pub AreWithin : (buffer copies : List ℕ) → List Event → Type 0
AreWithin buffer copies events = AllByRecursion (IsWithin (length buffer) (length copies)) events

-- that all events are within their buffers has at most one proof
pub AreWithin-prop : (buffer copies : List ℕ) (events : List Event) → IsProp (AreWithin buffer copies events)
AreWithin-prop buffer copies events = AllByRecursion-prop (IsWithin (length buffer) (length copies)) (IsWithin-prop (length buffer) (length copies)) events
