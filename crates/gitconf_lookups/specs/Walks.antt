-- What walks over the sections of a store have left.
use Rattle.std.specs.Prelude.{ℕ, Bool, List, map, filter}
use Rattle.gitconf_sources.specs.Metadata.{Meta}
use Rattle.gitconf_items.specs.EventRef.{Shown}
use Rattle.gitconf_items.specs.ShownEvents.{shown_token}
use Rattle.gitconf_sections.specs.Walks as walks
use Rattle.gitconf_state.specs.Lookup.{has_name, listing}
use Rattle.gitconf_state.specs.State.{SectionState}
use Rattle.gitconf_items.specs.Items.{tokens_in}
use Rattle.gitconf_items.specs.declared.events.ItemEvents.{ItemEvents}
use Rattle.gitconf_sections.specs.Section.{Section}
use Rattle.gitconf_views.specs.declared.section.SectionRef.{SectionRef}
use Rattle.gitconf_lookups.specs.declared.walks.SectionsNamed.{SectionsNamed}
use Rattle.gitconf_lookups.specs.declared.walks.SectionsByName.{SectionsByName}
use Rattle.gitconf_lookups.specs.declared.walks.SectionsAndIds.{SectionsAndIds}
use Rattle.gitconf_lookups.specs.declared.walks.SectionsAndIdsByName.{SectionsAndIdsByName}
use Rattle.gitconf_lookups.specs.declared.walks.SectionIds.{SectionIds}
use Rattle.gitconf_lookups.specs.declared.walks.SectionsAndPostmatter.{SectionsAndPostmatter}
use Rattle.gitconf_items.specs.ItemEvents.{events_left}
use Rattle.gitconf_views.specs.Store.{section_under}
use Rattle.gitconf_views.specs.Views.{sections_left, shown}

-- the sections of a name and any subsection, in file order
abbrev pub with_name : (name : List ℕ) → List SectionState → List SectionState
with_name name sections = filter (λ s. has_name name (listing s)) sections

-- the sections whose metadata passes
abbrev pub passing : (keeps : Meta → Bool) → List SectionState → List SectionState
passing keeps sections = filter (λ s. keeps s.meta) sections

-- a section and its number
abbrev pub with_id : SectionState → SectionState × ℕ
with_id s = (s, s.number)

-- a section and its number, as a walk shows them
abbrev pub shown_with_id : SectionRef × ℕ → SectionState × ℕ
shown_with_id p = (shown p.0, p.1)

-- a section and the events of what is held after it
abbrev pub with_held : SectionState → SectionState × List Shown
with_held s = (s, map shown_token (tokens_in s.held))

-- a section and the events of what is held after it, as a walk shows them
abbrev pub shown_with_held : SectionRef × ItemEvents → SectionState × List Shown
shown_with_held p = (shown p.0, events_left p.1)

-- what is left of a walk over the sections of a name and subsection
abbrev pub named_left : SectionsNamed → List SectionState
named_left it = map (λ (p : ℕ × Section). section_under it.buffer.now p.0 p.1) (walks.named_left it.sections)

-- what is left of a walk over the sections of a name
abbrev pub by_name_left : SectionsByName → List SectionState
by_name_left it = map (λ (p : ℕ × Section). section_under it.buffer.now p.0 p.1) (walks.with_name_left it.sections)

-- what is left of a walk over all sections, with their numbers
abbrev pub and_ids_left : SectionsAndIds → List (SectionState × ℕ)
and_ids_left it = map with_id (sections_left it.sections)

-- what is left of a walk over the sections of a name, with their numbers
abbrev pub and_ids_by_name_left : SectionsAndIdsByName → List (SectionState × ℕ)
and_ids_by_name_left it = map with_id (by_name_left it.sections)

-- what is left of a walk over the numbers of all sections
abbrev pub section_ids_left : SectionIds → List ℕ
section_ids_left it = map (λ s. s.number) (sections_left it.sections)

-- what is left of a walk over all sections, with what is held after each
abbrev pub and_held_left : SectionsAndPostmatter → List (SectionState × List Shown)
and_held_left it = map with_held (sections_left it.sections)
