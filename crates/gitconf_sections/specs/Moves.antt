-- Sections whose bytes come after other bytes, so that their spans are moved.
use Rattle.std.specs.Prelude.{◌≡◌, ℕ, ◌-◌, ◌^◌, Some}
use Rattle.gitconf_items.specs.Events.{HeaderFits}
use Rattle.gitconf_items.specs.ItemsFit.{AreItemsWithin}
use Rattle.gitconf_items.specs.ShownEvents.{CopyFits}
use Rattle.gitconf_items.specs.Moves.{AreItemsMoved, IsHeaderMoved}
use Rattle.gitconf_text.specs.Sections.{Sections, section_at, with_section}
use Rattle.gitconf_sections.specs.Section.{Section}

-- the same section, after `by` bytes were put before those of its buffer, and `copies_by` before the decoded copies
pub record IsSectionMoved (by copies_by : ℕ) (old new : Section) : Type 0 where
  pub header : IsHeaderMoved by copies_by old.header new.header
  pub meta : new.meta ≡ old.meta
  pub items : AreItemsMoved by old.items.items new.items.items
  pub held : AreItemsMoved by old.held.items new.held.items

-- a section whose spans may be moved by that many bytes, and its decoded copy by that many bytes of copies
pub record IsMovable (by copies_by : ℕ) (s : Section) : Type 0 where
  pub header : HeaderFits (2 ^ 32 - 1 - by) s.header
  pub copy : CopyFits (2 ^ 32 - 1 - copies_by) s.header.decoded
  pub items : AreItemsWithin (2 ^ 32 - 1 - by) s.items.items
  pub held : AreItemsWithin (2 ^ 32 - 1 - by) s.held.items

-- the section at a place was moved, and no other changed
pub record IsMovedAt (by copies_by at : ℕ) (old new : Sections Section) : Type 0 where
  pub section : Section
  pub moved : Section
  pub there : section_at at old ≡ Some section
  pub is_moved : IsSectionMoved by copies_by section moved
  pub all : new ≡ with_section old at moved
