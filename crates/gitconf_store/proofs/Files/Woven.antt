-- A store whose last sections are woven among the others.
use Rattle.std.proofs.Common.{◌≡◌, ℕ, List, map, sym, subst, ◌∙◌}
use Rattle.std.specs.List.{AllByRecursion}
use Rattle.gitconf_sources.specs.Metadata.{Meta}
use Rattle.gitconf_items.specs.declared.items.Item.{Item}
use Rattle.gitconf_state.specs.State.{HasSectionItems}
use Rattle.gitconf_sections.specs.declared.runs.Run.{Run}
use Rattle.gitconf_sections.specs.Runs.{woven}
use Rattle.gitconf_text.specs.Sections.{Sections}
use Rattle.gitconf_sections.proofs.Woven.{all_woven, map_woven}
use Rattle.gitconf_sections.specs.Section.{Section}
use Rattle.gitconf_views.specs.Store.{section_state, state_of, SectionFits, StoreFits}

module _ (buffer : List ℕ) (front : List Item) (meta : Meta) (old new : Sections Section) (runs : List Run) (first : ℕ) (is : new ≡ record old { entries = woven runs first old.entries }) where
  shown : map (section_state buffer) (woven runs first old.entries) ≡ woven runs first (map (section_state buffer) old.entries)
  shown = map_woven (section_state buffer) runs first old.entries

  pub woven_state : state_of buffer front meta new ≡ record (state_of buffer front meta old) { sections = woven runs first (map (section_state buffer) old.entries) }
  woven_state =
      (λ i. state_of buffer front meta (is i))
      ∙ (λ i. record (state_of buffer front meta old) { sections = shown i })

  pub woven_fits : (copies : List ℕ) → StoreFits buffer copies front meta old → StoreFits buffer copies front meta new
  woven_fits copies fits = subst (StoreFits buffer copies front meta) (sym is) (record {
    room = fits.room;
    front_within = fits.front_within;
    sections_within = all_woven (SectionFits buffer copies) runs first old.entries fits.sections_within;
    items = record {
      front = fits.items.front;
      sections = subst (AllByRecursion HasSectionItems) (sym shown) (all_woven HasSectionItems runs first (map (section_state buffer) old.entries) fits.items.sections);
    };
  })
