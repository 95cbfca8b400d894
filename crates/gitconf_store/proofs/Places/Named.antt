-- The sections that the table finds by name are those of the state.
use Rattle.std.proofs.Common.{◌≡◌, ℕ, List, Option, None, ap, ◌∙◌}
use Rattle.std.specs.Prelude.{◌&&◌}
use Rattle.std.specs.Option.{option_eq}
use Rattle.std.specs.Str.{bytes_eq}
use Rattle.gitconf_text.specs.Header.{name_of}
use Rattle.gitconf_text.specs.Names.{is_same_name}
use Rattle.gitconf_text.specs.Sections.{SectionEntry}
use Rattle.gitconf_text.specs.Sections as table
use Rattle.gitconf_sections.proofs.SectionLemmas.{has_name-new}
use Rattle.gitconf_items.specs.Events.{header_of}
use Rattle.gitconf_state.specs.Lookup as state
use Rattle.gitconf_sections.specs.Section.{Section}
use Rattle.gitconf_views.specs.Store.{section_state, SectionFits}

-- a section of the table has a name where its header does
pub named_so : (buffer copies name : List ℕ) (subsection : Option (List ℕ)) (e : SectionEntry Section) → SectionFits buffer copies e
    → table.is_named name subsection e ≡ state.is_named name subsection (state.listing (section_state buffer e))
named_so buffer copies name subsection e fits =
    let h = header_of buffer e.section.header in
    let same : is_same_name name e.name ≡ is_same_name name (name_of h) = ap (is_same_name name) fits.name ∙ has_name-new name (name_of h) 0 None e.section in
    λ i. same i && option_eq bytes_eq (fits.subsection i) subsection
