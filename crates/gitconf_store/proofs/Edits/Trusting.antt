-- A section of a number with another trust.
use Rattle.std.proofs.Common.{◌≡◌, ◌==◌, ℕ, zero, suc, List, [], ◌∷◌, map, Option, Some, None, refl, ap, sym, subst, ◌∙◌}
use Rattle.std.specs.List.{AllByRecursion, slice_get}
use Rattle.std.specs.Option.{option_map}
use Rattle.gitconf_sources.specs.Metadata.{Meta}
use Rattle.gitconf_sources.specs.declared.source.Trust.{Trust}
use Rattle.gitconf_items.specs.declared.items.Item.{Item}
use Rattle.gitconf_items.specs.Events.{header_of}
use Rattle.gitconf_text.specs.Sections.{AreNumbered, SectionEntry, Sections, changed_at, number_at, section_at, with_section}
use Rattle.gitconf_state.specs.Edits.{change_numbered, with_trust}
use Rattle.gitconf_state.specs.State.{HasSectionItems, SectionState}
use Rattle.gitconf_items.specs.Items.{items_of}
use Rattle.gitconf_sections.specs.Section.{Section}
use Rattle.gitconf_store.specs.Renamings.{marked}
use Rattle.gitconf_views.specs.Store.{section_state, state_of, SectionFits, StoreFits}
use Rattle.gitconf_store.proofs.Headers.Renaming.{marks_of, one_changed}

-- the same section, trusted otherwise
pub record IsTrusted (trust : Trust) (s t : Section) : Type 0 where
  pub header : t.header ≡ s.header
  pub meta : t.meta.value ≡ record s.meta.value { trust = trust }
  pub items : t.items ≡ s.items
  pub held : t.held ≡ s.held

trusted_at : (b : List ℕ) (trust : Trust) (s t : Section) (at : ℕ) (es : List (SectionEntry Section)) → IsTrusted trust s t → option_map (λ (e : SectionEntry Section). e.section) (slice_get es at) ≡ Some s
    → map (section_state b) (changed_at (λ e. record e { section = t }) es at) ≡ marked (marks_of at) (with_trust trust) (map (section_state b) es)
trusted_at b trust s t at [] is here = absurd (cc)
trusted_at b trust s t (suc at) (e ∷ es) is here = ap (λ ss. section_state b e ∷ ss) (trusted_at b trust s t at es is here)
trusted_at b trust s t zero (e ∷ es) is here =
    let same : s ≡ e.section = cc in
    λ i. record {
      number = e.number;
      header = (ap (header_of b) (is.header ∙ ap (λ s. s.header) same)) i;
      meta = (is.meta ∙ ap (λ s. record s.meta.value { trust = trust }) same) i;
      items = (ap (λ is. items_of b is.items) (is.items ∙ ap (λ s. s.items) same)) i;
      held = (ap (λ is. items_of b is.items) (is.held ∙ ap (λ s. s.held) same)) i;
    } ∷ map (section_state b) es

fits_at : (b copies : List ℕ) (trust : Trust) (s t : Section) (at : ℕ) (es : List (SectionEntry Section)) → IsTrusted trust s t → option_map (λ (e : SectionEntry Section). e.section) (slice_get es at) ≡ Some s
    → AllByRecursion (SectionFits b copies) es → AllByRecursion (SectionFits b copies) (changed_at (λ e. record e { section = t }) es at)
fits_at b copies trust s t at [] is here fits = tt
fits_at b copies trust s t (suc at) (e ∷ es) is here fits = (fits.0, fits_at b copies trust s t at es is here fits.1)
fits_at b copies trust s t zero (e ∷ es) is here fits =
    let same : s ≡ e.section = cc in
    let header : t.header ≡ e.section.header = is.header ∙ ap (λ s. s.header) same in
    let items : t.items ≡ e.section.items = is.items ∙ ap (λ s. s.items) same in
    let held : t.held ≡ e.section.held = is.held ∙ ap (λ s. s.held) same in (
      record {
        header = rw header fits.0.header;
        items = rw items fits.0.items;
        held = rw held fits.0.held;
        name = rw header fits.0.name;
        subsection = rw header fits.0.subsection;
      },
      fits.1,
    )

items_at : (trust : Trust) (at : ℕ) (ss : List SectionState) → AllByRecursion HasSectionItems ss → AllByRecursion HasSectionItems (marked (marks_of at) (with_trust trust) ss)
items_at trust at [] all = nothing at
  where
    nothing : (at : ℕ) → AllByRecursion HasSectionItems (marked (marks_of at) (with_trust trust) [])
    nothing zero = tt
    nothing (suc at) = tt
items_at trust zero (s ∷ ss) all = (record { header = all.0.header; items = all.0.items; held = all.0.held }, all.1)
items_at trust (suc at) (s ∷ ss) all = (all.0, items_at trust at ss all.1)

pub trusted_state : (b : List ℕ) (front : List Item) (meta : Meta) (sections : Sections Section) (id at : ℕ) (trust : Trust) (s t : Section) → AreNumbered sections.next sections.entries → IsTrusted trust s t
    → section_at at sections ≡ Some s → number_at at sections ≡ Some id → state_of b front meta (with_section sections at t) ≡ change_numbered id (with_trust trust) (state_of b front meta sections)
trusted_state b front meta sections id at trust s t once is here number = λ i. record {
  front = items_of b front;
  meta = meta;
  next = sections.next;
  used = Rattle.std.proofs.Common.length b;
  sections = (trusted_at b trust s t at sections.entries is here ∙ one_changed b id sections.next (with_trust trust) at sections.entries once number) i;
}

pub trusted_fits : (b copies : List ℕ) (front : List Item) (meta : Meta) (sections : Sections Section) (at : ℕ) (trust : Trust) (s t : Section) → StoreFits b copies front meta sections → IsTrusted trust s t
    → section_at at sections ≡ Some s → StoreFits b copies front meta (with_section sections at t)
trusted_fits b copies front meta sections at trust s t fits is here = record {
  room = fits.room;
  front_within = fits.front_within;
  sections_within = fits_at b copies trust s t at sections.entries is here fits.sections_within;
  items = record {
    front = fits.items.front;
    sections = subst (AllByRecursion HasSectionItems) (sym (trusted_at b trust s t at sections.entries is here)) (items_at trust at (map (section_state b) sections.entries) fits.items.sections);
  };
}
