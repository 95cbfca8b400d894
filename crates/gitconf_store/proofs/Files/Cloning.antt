-- Clones of the parts of a store make the same state.
use Rattle.std.proofs.Common.{◌≡◌, ℕ, List, [], ◌∷◌, length, map, refl, ap, sym, subst, ◌∙◌}
use Rattle.std.specs.List.{AllByRecursion, AllZip}
use Rattle.gitconf_text.specs.Bytes.{fold}
use Rattle.gitconf_text.specs.Header.{name_of, subsection_of}
use Rattle.gitconf_sources.specs.Metadata.{Meta}
use Rattle.gitconf_text.specs.Sections.{SectionEntry, Sections, IsEntryClone, IsTableClone}
use Rattle.gitconf_items.specs.declared.items.Item.{Item}
use Rattle.gitconf_items.specs.declared.event.Event.TheVariants as kinds
use Rattle.gitconf_items.specs.contracts.items.ItemClone.TheImpl as item
use Rattle.gitconf_items.specs.Events.{header_of}
use Rattle.gitconf_items.specs.ShownEvents.{IsShown}
use Rattle.gitconf_items.proofs.Clones.{cloned_items, items_within}
use Rattle.gitconf_state.specs.State.{HasItems}
use Rattle.gitconf_sections.specs.Section.{Section, IsSectionClone}
use Rattle.gitconf_views.specs.Store.{section_state, state_of, SectionFits, StoreFits}

abbrev IsClonedTable : Sections Section → Sections Section → Type 0
IsClonedTable = IsTableClone IsSectionClone

abbrev IsClonedEntry : SectionEntry Section → SectionEntry Section → Type 0
IsClonedEntry = IsEntryClone IsSectionClone

cloned_section : (buffer : List ℕ) (e d : SectionEntry Section) → IsClonedEntry e d → section_state buffer d ≡ section_state buffer e
cloned_section buffer e d c = λ i. record {
  number = c.number i;
  header = header_of buffer (c.section.header i);
  meta = c.section.meta i;
  items = cloned_items buffer e.section.items.items d.section.items.items c.section.items i;
  held = cloned_items buffer e.section.held.items d.section.held.items c.section.held i;
}

cloned_sections : (buffer : List ℕ) (es ds : List (SectionEntry Section)) → AllZip IsClonedEntry es ds → map (section_state buffer) ds ≡ map (section_state buffer) es
cloned_sections buffer [] [] all = refl
cloned_sections buffer [] (d ∷ ds) all = elim all [ ]
cloned_sections buffer (e ∷ es) [] all = elim all [ ]
cloned_sections buffer (e ∷ es) (d ∷ ds) all = λ i. cloned_section buffer e d all.0 i ∷ cloned_sections buffer es ds all.1 i

section_fits : (buffer copies : List ℕ) (e d : SectionEntry Section) → IsClonedEntry e d → SectionFits buffer copies e → SectionFits buffer copies d
section_fits buffer copies e d c h = record {
  header = subst (λ t. IsShown buffer copies (kinds.SectionHeader t)) (sym c.section.header) h.header;
  items = items_within (length buffer) e.section.items.items d.section.items.items c.section.items h.items;
  held = items_within (length buffer) e.section.held.items d.section.held.items c.section.held h.held;
  name = c.name ∙ h.name ∙ ap (λ t. fold (name_of (header_of buffer t))) (sym c.section.header);
  subsection = c.subsection ∙ h.subsection ∙ ap (λ t. subsection_of (header_of buffer t)) (sym c.section.header);
}

sections_fit : (buffer copies : List ℕ) (es ds : List (SectionEntry Section)) → AllZip IsClonedEntry es ds
    → AllByRecursion (SectionFits buffer copies) es → AllByRecursion (SectionFits buffer copies) ds
sections_fit buffer copies [] [] all h = tt
sections_fit buffer copies [] (d ∷ ds) all h = elim all [ ]
sections_fit buffer copies (e ∷ es) [] all h = elim all [ ]
sections_fit buffer copies (e ∷ es) (d ∷ ds) all h = (section_fits buffer copies e d all.0 h.0, sections_fit buffer copies es ds all.1 h.1)

-- the state that the clones make is the same
pub cloned_state : (buffer other : List ℕ) (front front_copy : List Item) (meta place : Meta) (sections table : Sections Section)
    → other ≡ buffer → AllZip (item.ghosts).is_clone front front_copy → place ≡ meta → IsClonedTable sections table
    → state_of other front_copy place table ≡ state_of buffer front meta sections
cloned_state buffer other front front_copy meta place sections table same all metas c =
    ap (λ b. state_of b front_copy place table) same
    ∙ (λ i. record {
      front = cloned_items buffer front front_copy all i;
      meta = metas i;
      next = c.next i;
      used = length buffer;
      sections = cloned_sections buffer sections.entries table.entries c.entries i;
    })

-- the clones keep what a store keeps
pub clones_fit : (buffer other copies others : List ℕ) (front front_copy : List Item) (meta place : Meta) (sections table : Sections Section)
    → other ≡ buffer → others ≡ copies → AllZip (item.ghosts).is_clone front front_copy → place ≡ meta → IsClonedTable sections table
    → StoreFits buffer copies front meta sections → StoreFits other others front_copy place table
clones_fit buffer other copies others front front_copy meta place sections table same shown all metas c h =
    subst (λ b. StoreFits b others front_copy place table) (sym same)
    (subst (λ b. StoreFits buffer b front_copy place table) (sym shown) (record {
      room = h.room;
      front_within = items_within (length buffer) front front_copy all h.front_within;
      sections_within = sections_fit buffer copies sections.entries table.entries c.entries h.sections_within;
      items = subst HasItems (sym (cloned_state buffer buffer front front_copy meta place sections table refl all metas c)) h.items;
    }))
