-- What an append of another file adds to the buffer of a file.
use Rattle.std.specs.Prelude.{◌≡◌, ◌⊎◌, ℕ, ◌+◌, ◌<◌, ◌≤◌, ◌^◌, List, [], ◌∷◌, ◌++◌, length, Option, Some, None, slice_get}
use Rattle.gitconf_text.specs.Part as parts
use Rattle.gitconf_text.specs.Sections.{no_number, SectionEntry}
use Rattle.gitconf_items.specs.declared.event.Span.{Span}
use Rattle.gitconf_items.specs.declared.items.Item.{Item}
use Rattle.gitconf_items.specs.ItemsFit.{AreItemsWithin}
use Rattle.gitconf_state.specs.Edits.{between, joined, numbered_from}
use Rattle.gitconf_state.specs.LineEnds.{file_line_end}
use Rattle.gitconf_state.specs.State.{SectionState, State}
pub use Rattle.gitconf_state.specs.Appending.{held_or, items_before, line_bytes}
use Rattle.gitconf_items.specs.Items.{items_of}
use Rattle.gitconf_sections.specs.Section.{Section}
use Rattle.gitconf_sections.specs.Held.{line_end_item}
use Rattle.gitconf_store.specs.Edits.{update_at}

-- the bytes of the line ending that goes between these items and the other's front; none if none is needed
abbrev pub line_between : (other state : State) → List ℕ
line_between other state = line_bytes (file_line_end state) (between (file_line_end state) (items_before state) other.front)

-- how many bytes are added to the buffer: the other's, and that line ending's
abbrev pub appended_bytes : (other state : State) → ℕ
appended_bytes other state = length (line_between other state) + other.used

-- the items that others are put after at a place: those held after the section there, or the front if there is no section
abbrev pub items_at : (at : ℕ) → State → List parts.Item
items_at at state = held_or state.front (slice_get state.sections at)

-- the same items as a store keeps them
abbrev pub kept_or : (front : List Item) → Option (SectionEntry Section) → List Item
kept_or front None = front
kept_or front (Some e) = e.section.held.items

-- the items that others are put after at a place, as a store keeps them
abbrev pub kept_at : (at : ℕ) → (front : List Item) → List (SectionEntry Section) → List Item
kept_at at front entries = kept_or front (slice_get entries at)

-- the bytes of the line ending that goes between the items at a place and the other's front; none if none is needed
abbrev pub line_at : (at : ℕ) → (line_end : List ℕ) → (other state : State) → List ℕ
line_at at line_end other state = line_bytes line_end (between line_end (items_at at state) other.front)

-- how many bytes are then added to the buffer: the other's, and that line ending's
abbrev pub bytes_at : (at : ℕ) → (line_end : List ℕ) → (other state : State) → ℕ
bytes_at at line_end other state = length (line_at at line_end other state) + other.used

-- the buffer would be too long for these bytes, or fewer numbers are left than the other has sections
abbrev pub HasNoRoomAt : (at : ℕ) → (line_end : List ℕ) → (other state : State) → Type 0
HasNoRoomAt at line_end other state = (2 ^ 32 ≤ state.used + bytes_at at line_end other state) ⊎ (no_number < state.next + length other.sections)

-- a section that holds these items too
abbrev pub holding : (line_end : List ℕ) → (others : List parts.Item) → SectionState → SectionState
holding line_end others s =
    record s { held = joined line_end s.held others }

-- The other's sections come last, under the next numbers. Its front is held after the section at a place.
abbrev pub included : (at : ℕ) → (line_end : List ℕ) → (other state : State) → State
included at line_end other state = record state {
  next = state.next + length other.sections;
  used = state.used + bytes_at at line_end other state;
  sections = update_at at (holding line_end other.front) state.sections ++ numbered_from state.next other.sections;
}

-- the same; if there is no section, the other's front joins the file's
abbrev pub put_at : (at : ℕ) → (line_end : List ℕ) → (other state : State) → State
put_at at line_end other state = record (included at line_end other state) {
  front = elim state.sections [ [] ↦ joined line_end state.front other.front | s ∷ sections ↦ state.front ];
}

-- the item of a line ending's bytes, if there are any
abbrev pub line_items : (bytes : List ℕ) → List parts.Item
line_items [] = []
line_items (b ∷ bytes) = parts.LineEndsItem (b ∷ bytes) ∷ []

-- the bytes of a line ending, if there are any, are in the buffer at this span
pub record IsLineAt (buffer bytes : List ℕ) (line : Option Span) : Type 0 where
  pub within : AreItemsWithin (length buffer) (line_end_item line)
  pub says : items_of buffer (line_end_item line) ≡ line_items bytes
