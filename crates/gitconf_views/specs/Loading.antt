-- The sections of a text that is being loaded.
use Rattle.std.specs.Prelude.{◌≡◌, ℕ, List, [], length, map}
use Rattle.std.specs.List.{AllByRecursion, range_with_len}
use Rattle.gitconf_sources.specs.Metadata.{Meta}
use Rattle.gitconf_text.specs.Sections.{Sections}
use Rattle.gitconf_state.specs.State.{SectionState}
use Rattle.gitconf_sections.specs.Section.{Section}
use Rattle.gitconf_views.specs.Store.{AllSectionsFit, section_state}

-- All come from one place, nothing is held, and they are numbered from 0.
pub record AreLoaded (place : Meta) (next : ℕ) (sections : List SectionState) : Type 0 where
  pub held : AllByRecursion (λ s. s.held ≡ []) sections
  pub metas : AllByRecursion (λ s. s.meta ≡ place) sections
  pub numbers : map (λ s. s.number) sections ≡ range_with_len 0 (length sections)
  pub counted : next ≡ length sections

-- the sections that were read so far of this buffer, with their decoded copies
pub record IsLoading (buffer : List ℕ) (place : Meta) (copies : List ℕ) (table : Sections Section) : Type 0 where
  pub fits : AllSectionsFit buffer copies table
  pub loaded : AreLoaded place table.next (map (section_state buffer) table.entries)
