-- The state that a store is, in the buffer that its spans are offsets of.
use Rattle.std.specs.Prelude.{◌≡◌, ℕ, ◌<◌, ◌^◌, List, [], length, map}
use Rattle.std.specs.List.{AllByRecursion}
use Rattle.gitconf_text.specs.Bytes.{fold}
use Rattle.gitconf_text.specs.Header.{name_of, subsection_of}
use Rattle.gitconf_sources.specs.Metadata.{Meta}
use Rattle.gitconf_text.specs.Sections.{SectionEntry, Sections}
use Rattle.gitconf_items.specs.declared.items.Item.{Item}
use Rattle.gitconf_items.specs.declared.event.Header.{Header}
use Rattle.gitconf_items.specs.declared.event.Event.TheVariants as kinds
use Rattle.gitconf_items.specs.Events.{header_of}
use Rattle.gitconf_items.specs.ItemsFit.{AreItemsWithin}
use Rattle.gitconf_items.specs.ShownEvents.{IsShown}
use Rattle.gitconf_state.specs.State.{SectionState, State, HasItems}
use Rattle.gitconf_items.specs.Items.{items_of}
use Rattle.gitconf_sections.specs.Section.{Section}

-- a section with its number, as its spans say it in the buffer
abbrev pub section_under : (buffer : List ℕ) → ℕ → Section → SectionState
section_under buffer number s = record {
  number = number;
  header = header_of buffer s.header;
  meta = s.meta.value;
  items = items_of buffer s.items.items;
  held = items_of buffer s.held.items;
}

-- the section that an entry of the table is
abbrev pub section_state : (buffer : List ℕ) → SectionEntry Section → SectionState
section_state buffer e = section_under buffer e.number e.section

-- the state that these parts of a store are
abbrev pub state_of : (buffer : List ℕ) → (front : List Item) → Meta → Sections Section → State
state_of buffer front meta sections = record {
  front = items_of buffer front;
  meta = meta;
  next = sections.next;
  used = length buffer;
  sections = map (section_state buffer) sections.entries;
}

-- A section of a store: its spans are within the buffer, its header is shown as its token is, and the table has it under the names of its
-- header.
pub record SectionFits (buffer copies : List ℕ) (e : SectionEntry Section) : Type 0 where
  pub header : IsShown buffer copies (kinds.SectionHeader e.section.header)
  pub items : AreItemsWithin (length buffer) e.section.items.items
  pub held : AreItemsWithin (length buffer) e.section.held.items
  pub name : e.name ≡ fold (name_of (header_of buffer e.section.header))
  pub subsection : e.subsection ≡ subsection_of (header_of buffer e.section.header)

-- each section of the table fits the buffer and the copies
abbrev pub AllSectionsFit : (buffer copies : List ℕ) → Sections Section → Type 0
AllSectionsFit buffer copies sections = AllByRecursion (SectionFits buffer copies) sections.entries

-- what holds of every store: its buffer is below the limit, all spans are within it, and its items are such as a text may have
pub record StoreFits (buffer copies : List ℕ) (front : List Item) (meta : Meta) (sections : Sections Section) : Type 0 where
  pub room : length buffer < 2 ^ 32
  pub front_within : AreItemsWithin (length buffer) front
  pub sections_within : AllSectionsFit buffer copies sections
  pub items : HasItems (state_of buffer front meta sections)

-- the section of a header and items, as it is loaded under a number
abbrev pub loaded_section : (buffer : List ℕ) → Meta → ℕ → Header → List Item → SectionState
loaded_section buffer meta number header items = record {
  number = number;
  header = header_of buffer header;
  meta = meta;
  items = items_of buffer items;
  held = [];
}
