-- What the views of a store show.
use Rattle.std.specs.Prelude.{ℕ, Bool, true, false, List, map}
use Rattle.gitconf_text.specs.Document.{DocumentEntry}
use Rattle.gitconf_text.specs.Header.{Header, PlainHeader, DottedHeader, QuotedHeader}
use Rattle.gitconf_text.specs.Part as parts
use Rattle.gitconf_items.specs.Events.{header_of}
use Rattle.gitconf_sections.specs.Walks as walks
use Rattle.gitconf_state.specs.State.{SectionState, entries_of}
use Rattle.gitconf_items.specs.Items.{items_of}
use Rattle.gitconf_sections.specs.Section.{Section, seen_as}
use Rattle.gitconf_views.specs.declared.section.SectionRef.{SectionRef}
use Rattle.gitconf_views.specs.declared.section.Sections.{Sections}
use Rattle.gitconf_views.specs.declared.views.HeaderRef.{HeaderRef}
use Rattle.gitconf_views.specs.declared.views.BodyRef.{BodyRef}
use Rattle.gitconf_views.specs.declared.views.BodyRefIter.{BodyRefIter}
use Rattle.gitconf_views.specs.declared.views.ValueNames.{ValueNames}
use Rattle.gitconf_views.specs.Store.{section_under}

-- the section of which this is a view
abbrev pub seen : SectionRef → Section
seen r = seen_as r.header.now r.meta.now r.items.now r.held.now

-- the section that a view shows
abbrev pub shown : SectionRef → SectionState
shown r = section_under r.buffer.now r.id (seen r)

-- the sections that a walk has left
abbrev pub sections_left : Sections → List SectionState
sections_left it = map (λ (p : ℕ × Section). section_under it.buffer.now p.0 p.1) (walks.sections_left it.sections)

-- the header that a view shows
abbrev pub shown_header : HeaderRef → Header
shown_header r = header_of r.buffer.now r.header.now

-- the header has its subsection after a dot
abbrev pub is_dotted : Header → Bool
is_dotted (PlainHeader name) = false
is_dotted (DottedHeader name subsection) = true
is_dotted (QuotedHeader name blanks spelling) = false

-- the items of the body that a view shows
abbrev pub shown_body : BodyRef → List parts.Item
shown_body r = items_of r.buffer.now r.items.now

-- the entries that a walk has left
abbrev pub entries_left : BodyRefIter → List DocumentEntry
entries_left it = entries_of (items_of it.buffer.now it.items.now)

-- the names that a walk has left, as they are spelled
abbrev pub names_left : ValueNames → List (List ℕ)
names_left it = map (λ e. e.name) (entries_of (items_of it.buffer.now it.items.now))
