-- Sections and items of another file, after those of a table.
use Rattle.std.specs.Prelude.{◌≡◌, ℕ, zero, suc, ◌+◌, List, [], ◌∷◌, ◌++◌, length, map}
use Rattle.gitconf_text.specs.Part as parts
use Rattle.gitconf_items.specs.declared.items.Item.{Item}
use Rattle.gitconf_items.specs.ItemsFit.{AreItemsWithin}
use Rattle.gitconf_text.specs.Sections.{Sections}
use Rattle.gitconf_state.specs.Edits.{numbered_from}
use Rattle.gitconf_state.specs.State.{SectionState}
use Rattle.gitconf_items.specs.Items.{items_of}
use Rattle.gitconf_sections.specs.Section.{Section}
use Rattle.gitconf_views.specs.Store.{section_state, AllSectionsFit}

-- the section at a place holds these items after what it held
abbrev pub held_at : (more : List parts.Item) → (at : ℕ) → List SectionState → List SectionState
held_at more at [] = []
held_at more zero (s ∷ sections) = record s { held = s.held ++ more } ∷ sections
held_at more (suc at) (s ∷ sections) = s ∷ held_at more at sections

-- The section at a place holds more items, and the sections of another table follow all others, under the next numbers: in every buffer that
-- all of that is within.
pub record AreBehind (at : ℕ) (more : List Item) (other old new : Sections Section) : Type 0 where
  pub next : new.next ≡ old.next + length other.entries
  pub states : (buffer : List ℕ) → map (section_state buffer) new.entries
      ≡ held_at (items_of buffer more) at (map (section_state buffer) old.entries) ++ numbered_from old.next (map (section_state buffer) other.entries)
  pub fit : (buffer copies : List ℕ) → AllSectionsFit buffer copies old → AllSectionsFit buffer copies other → AreItemsWithin (length buffer) more → AllSectionsFit buffer copies new

-- the same sections, with other room in their lists
pub record AreSame (old new : Sections Section) : Type 0 where
  pub next : new.next ≡ old.next
  pub states : (buffer : List ℕ) → map (section_state buffer) new.entries ≡ map (section_state buffer) old.entries
  pub fit : (buffer copies : List ℕ) → AllSectionsFit buffer copies old → AllSectionsFit buffer copies new

-- the front, with the items after it if there is no section
abbrev pub front_then : {A : Type 0} → List A → (front more : List Item) → List Item
front_then [] front more = front ++ more
front_then (x ∷ xs) front more = front
