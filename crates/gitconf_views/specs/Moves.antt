-- Sections whose bytes come after other bytes, so that their spans are moved.
use Rattle.std.specs.Prelude.{◌≡◌, ℕ}
use Rattle.std.specs.List.{AllByRecursion, AllZip}
use Rattle.gitconf_text.specs.Sections.{SectionEntry, Sections}
use Rattle.gitconf_sections.specs.Moves.{IsMovable, IsSectionMoved}
use Rattle.gitconf_sections.specs.Section.{Section}

-- all sections may be moved by that many bytes
abbrev pub AreMovable : (by copies_by : ℕ) → Sections Section → Type 0
AreMovable by copies_by all = AllByRecursion (λ e. IsMovable by copies_by e.section) all.entries

-- a section that was moved, with the same number and names
pub record IsEntryMoved (by copies_by : ℕ) (old new : SectionEntry Section) : Type 0 where
  pub number : new.number ≡ old.number
  pub name : new.name ≡ old.name
  pub subsection : new.subsection ≡ old.subsection
  pub section : IsSectionMoved by copies_by old.section new.section

-- all sections of a table were moved
pub record AreSectionsMoved (by copies_by : ℕ) (old new : Sections Section) : Type 0 where
  pub next : new.next ≡ old.next
  pub entries : AllZip (IsEntryMoved by copies_by) old.entries new.entries
