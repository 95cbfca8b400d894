-- What the iterators over events have left.
use Rattle.std.specs.Prelude.{List, map}
use Rattle.gitconf_parse.specs.declared.events.iters.EventIter.{EventIter}
use Rattle.gitconf_parse.specs.declared.events.iters.SectionRef.{SectionRef}
use Rattle.gitconf_parse.specs.declared.events.iters.SectionIter.{SectionIter}
use Rattle.gitconf_read.specs.Compact.{events_of}
use Rattle.gitconf_items.specs.EventRef.{Shown}
use Rattle.gitconf_items.specs.ShownEvents.{shown_event}
use Rattle.gitconf_items.specs.Sections.{is_header_event, sections_of}

-- what an iterator over events has left, as it is shown
abbrev pub events_left : EventIter → List Shown
events_left s = map (shown_event s.buffer.now s.copies.now) (events_of s.events)

-- what is shown of a section: its header, and what follows it
abbrev pub shown_section : SectionRef → List Shown
shown_section s = map (shown_event s.buffer.now s.copies.now) (events_of s.events)

-- what an iterator over sections has left, each section as it is shown
abbrev pub sections_left : SectionIter → List (List Shown)
sections_left s = map (λ events. map (shown_event s.buffer.now s.copies.now) events) (sections_of is_header_event (events_of s.events))
