-- The items of a section of the table are changed, in a longer buffer.
use Rattle.std.proofs.Common.{◌≡◌, ℕ, ◌<◌, ◌^◌, true, List, [], ◌∷◌, length, map, zero, suc, Option, Some, None, inl, inr, refl, ap, sym, subst, ◌∙◌}
use Rattle.std.specs.List.{list_all, AllByRecursion, slice_get}
use Rattle.std.specs.Option.{option_map}
use Rattle.std.specs.Prelude.{◌⊎◌, IfSome}
use Rattle.gitconf_text.specs.Bytes.{fold}
use Rattle.gitconf_text.specs.Header.{name_of, subsection_of}
use Rattle.gitconf_text.specs.Part.{Item as SectionItem}
use Rattle.gitconf_sources.specs.Metadata.{Meta}
use Rattle.gitconf_text.specs.Sections.{SectionEntry, Sections, changed_at, with_section, section_at}
use Rattle.gitconf_items.specs.declared.items.Item.{Item}
use Rattle.gitconf_items.specs.declared.event.Event.TheVariants as kinds
use Rattle.gitconf_items.specs.Events.{header_of}
use Rattle.gitconf_items.specs.ItemsFit.{AreItemsWithin}
use Rattle.gitconf_items.specs.ShownEvents.{IsExtended, IsShown}
use Rattle.gitconf_state.specs.Edit.{with_used}
use Rattle.gitconf_state.specs.State.{SectionState, State, HasItems, HasSectionItems, is_item, with_items}
use Rattle.gitconf_items.specs.Items.{items_of}
use Rattle.gitconf_body.proofs.Buffers.{extended_fit, extended_items}
use Rattle.gitconf_sections.specs.Section.{Section}
use Rattle.gitconf_store.specs.Edits.{update_at}
use Rattle.gitconf_store.specs.ItemsEdits.{changed_at_place}
use Rattle.gitconf_views.specs.Store.{section_state, state_of, SectionFits, AllSectionsFit, StoreFits}
use Rattle.gitconf_views.proofs.Append.{section_more, section_fits_more, sections_more, sections_fit_in_more}

-- sections in the longer buffer
pub section_in : (b new copies : List ℕ) (e : SectionEntry Section) → IsExtended b new → SectionFits b copies e → section_state new e ≡ section_state b e
section_in b new copies e x fits = ap (λ n. section_state n e) x.1 ∙ section_more b copies x.0 e fits

pub section_fits_in : (b new copies : List ℕ) (e : SectionEntry Section) → IsExtended b new → SectionFits b copies e → SectionFits new copies e
section_fits_in b new copies e x fits = subst (λ n. SectionFits n copies e) (sym x.1) (section_fits_more b copies x.0 e fits)

pub sections_in : (b new copies : List ℕ) (es : List (SectionEntry Section)) → IsExtended b new → AllByRecursion (SectionFits b copies) es → map (section_state new) es ≡ map (section_state b) es
sections_in b new copies es x fits = ap (λ n. map (section_state n) es) x.1 ∙ sections_more b copies x.0 es fits

pub sections_fit_in : (b new copies : List ℕ) (es : List (SectionEntry Section)) → IsExtended b new → AllByRecursion (SectionFits b copies) es → AllByRecursion (SectionFits new copies) es
sections_fit_in b new copies es x fits = subst (λ n. AllByRecursion (SectionFits n copies) es) (sym x.1) (sections_fit_in_more b copies x.0 es fits)

-- a section with other items
pub record HasOthers (limit : ℕ) (s t : Section) : Type 0 where
  pub header : t.header ≡ s.header
  pub meta : t.meta ≡ s.meta
  pub held : t.held ≡ s.held
  pub within : AreItemsWithin limit t.items.items

pub changed_fits : (b new copies : List ℕ) (s t : Section) (es : List (SectionEntry Section)) (at : ℕ) → IsExtended b new → HasOthers (length new) s t
    → AllByRecursion (SectionFits b copies) es → option_map (λ (e : SectionEntry Section). e.section) (slice_get es at) ≡ Some s
    → AllByRecursion (SectionFits new copies) (changed_at (λ e. record e { section = t }) es at)
changed_fits b new copies s t [] at x others fits here = tt
changed_fits b new copies s t (e ∷ es) (suc at) x others fits here = (section_fits_in b new copies e x fits.0, changed_fits b new copies s t es at x others fits.1 here)
changed_fits b new copies s t (e ∷ es) zero x others fits here =
    let is : e.section ≡ s = cc in
    let f = section_fits_in b new copies e x fits.0 in
    let same : e.section.header ≡ t.header = ap (λ s. s.header) is ∙ sym others.header in (
      record {
        header = subst (λ h. IsShown new copies (kinds.SectionHeader h)) same f.header;
        items = others.within;
        held = subst (λ h. AreItemsWithin (length new) h.items) (ap (λ s. s.held) is ∙ sym others.held) f.held;
        name = f.name ∙ ap (λ h. fold (name_of (header_of new h))) same;
        subsection = f.subsection ∙ ap (λ h. subsection_of (header_of new h)) same;
      },
      sections_fit_in b new copies es x fits.1,
    )

-- it is the section with the change
changed_state : (b new copies : List ℕ) (s t : Section) (es : List (SectionEntry Section)) (at : ℕ) (change : List SectionItem → List SectionItem) → IsExtended b new → HasOthers (length new) s t
    → AllByRecursion (SectionFits b copies) es → option_map (λ (e : SectionEntry Section). e.section) (slice_get es at) ≡ Some s
    → items_of new t.items.items ≡ change (items_of b s.items.items)
    → map (section_state new) (changed_at (λ e. record e { section = t }) es at) ≡ update_at at (with_items change) (map (section_state b) es)
changed_state b new copies s t [] at change x others fits here set = absurd (cc)
changed_state b new copies s t (e ∷ es) (suc at) change x others fits here set =
    λ i. section_in b new copies e x fits.0 i ∷ changed_state b new copies s t es at change x others fits.1 here set i
changed_state b new copies s t (e ∷ es) zero change x others fits here set =
    let is : e.section ≡ s = cc in
    let same : t.header ≡ e.section.header = others.header ∙ ap (λ s. s.header) (sym is) in
    λ i. record {
      number = e.number;
      header = (ap (header_of new) same ∙ ap (λ s. s.header) (section_in b new copies e x fits.0)) i;
      meta = (ap (λ m. m.value) others.meta ∙ ap (λ s. s.meta.value) (sym is)) i;
      items = (set ∙ ap (λ s. change (items_of b s.items.items)) (sym is)) i;
      held = (ap (λ h. items_of new h.items) (others.held ∙ ap (λ s. s.held) (sym is)) ∙ ap (λ s. s.held) (section_in b new copies e x fits.0)) i;
    } ∷ sections_in b new copies es x fits.1 i

-- or as it was
unchanged_state : (b new copies : List ℕ) (s t : Section) (es : List (SectionEntry Section)) (at : ℕ) → IsExtended b new → HasOthers (length new) s t
    → AllByRecursion (SectionFits b copies) es → option_map (λ (e : SectionEntry Section). e.section) (slice_get es at) ≡ Some s → t.items.items ≡ s.items.items
    → map (section_state new) (changed_at (λ e. record e { section = t }) es at) ≡ map (section_state b) es
unchanged_state b new copies s t [] at x others fits here kept = refl
unchanged_state b new copies s t (e ∷ es) (suc at) x others fits here kept =
    λ i. section_in b new copies e x fits.0 i ∷ unchanged_state b new copies s t es at x others fits.1 here kept i
unchanged_state b new copies s t (e ∷ es) zero x others fits here kept =
    let is : e.section ≡ s = cc in
    let same : t.header ≡ e.section.header = others.header ∙ ap (λ s. s.header) (sym is) in
    λ i. record {
      number = e.number;
      header = (ap (header_of new) same ∙ ap (λ s. s.header) (section_in b new copies e x fits.0)) i;
      meta = (ap (λ m. m.value) others.meta ∙ ap (λ s. s.meta.value) (sym is)) i;
      items = (ap (items_of new) (kept ∙ ap (λ s. s.items.items) (sym is)) ∙ ap (λ s. s.items) (section_in b new copies e x fits.0)) i;
      held = (ap (λ h. items_of new h.items) (others.held ∙ ap (λ s. s.held) (sym is)) ∙ ap (λ s. s.held) (section_in b new copies e x fits.0)) i;
    } ∷ sections_in b new copies es x fits.1 i

-- what stands at the place
state_at : (b : List ℕ) (s : Section) (es : List (SectionEntry Section)) (at : ℕ) → option_map (λ (e : SectionEntry Section). e.section) (slice_get es at) ≡ Some s
    → option_map (λ (s : SectionState). s.items) (slice_get (map (section_state b) es) at) ≡ Some (items_of b s.items.items)
state_at b s [] at here = absurd (cc)
state_at b s (e ∷ es) (suc at) here = state_at b s es at here
state_at b s (e ∷ es) zero here = let is : e.section ≡ s = cc in ap (λ s. Some (items_of b s.items.items)) is

-- a state with the value has items of a state
update_holds : {A : Type 0} (P : A → Type 0) (change : A → A) → ((x : A) → P x → P (change x)) → (at : ℕ) (xs : List A) → AllByRecursion P xs → AllByRecursion P (update_at at change xs)
update_holds P change keeps at [] all = tt
update_holds P change keeps zero (x ∷ xs) all = (keeps x all.0, all.1)
update_holds P change keeps (suc at) (x ∷ xs) all = (all.0, update_holds P change keeps at xs all.1)

changed_items : (at : ℕ) (change : List SectionItem → List SectionItem) (state : State) → ((items : List SectionItem) → list_all is_item items ≡ true → list_all is_item (change items) ≡ true)
    → HasItems state → HasItems (changed_at_place at change state)
changed_items at change state holds has = record {
  front = has.front;
  sections = update_holds HasSectionItems (with_items change) (λ s one. record { header = one.header; items = holds s.items one.items; held = one.held }) at state.sections has.sections;
}

-- the store with the change, and one that was refused
pub changed_view : (b new copies : List ℕ) (front : List Item) (meta : Meta) (table : Sections Section) (at : ℕ) (s t : Section) (change : List SectionItem → List SectionItem)
    → IsExtended b new → HasOthers (length new) s t → AreItemsWithin (length b) front → AllSectionsFit b copies table → section_at at table ≡ Some s
    → items_of new t.items.items ≡ change (items_of b s.items.items)
    → state_of new front meta (with_section table at t) ≡ with_used (length new) (changed_at_place at change (state_of b front meta table))
changed_view b new copies front meta table at s t change x others within fits here set = λ i. record {
  front = extended_items b new front x within i;
  meta = meta;
  next = table.next;
  used = length new;
  sections = changed_state b new copies s t table.entries at change x others fits here set i;
}

pub kept_view : (b new copies : List ℕ) (front : List Item) (meta : Meta) (table : Sections Section) (at : ℕ) (s t : Section)
    → IsExtended b new → HasOthers (length new) s t → AreItemsWithin (length b) front → AllSectionsFit b copies table → section_at at table ≡ Some s
    → t.items.items ≡ s.items.items → state_of new front meta (with_section table at t) ≡ with_used (length new) (state_of b front meta table)
kept_view b new copies front meta table at s t x others within fits here kept = λ i. record {
  front = extended_items b new front x within i;
  meta = meta;
  next = table.next;
  used = length new;
  sections = unchanged_state b new copies s t table.entries at x others fits here kept i;
}

-- either way it keeps what a store keeps
pub changed_keeps : (b new copies : List ℕ) (front : List Item) (meta : Meta) (table : Sections Section) (at : ℕ) (s t : Section) (change : List SectionItem → List SectionItem)
    → IsExtended b new → length new < 2 ^ 32 → HasOthers (length new) s t → StoreFits b copies front meta table → section_at at table ≡ Some s
    → ((items : List SectionItem) → list_all is_item items ≡ true → list_all is_item (change items) ≡ true)
    → (items_of new t.items.items ≡ change (items_of b s.items.items)) ⊎ (t.items.items ≡ s.items.items)
    → StoreFits new copies front meta (with_section table at t)
changed_keeps b new copies front meta table at s t change x room others old here holds either = record {
  room = room;
  front_within = extended_fit b new front x old.front_within;
  sections_within = changed_fits b new copies s t table.entries at x others old.sections_within here;
  items = elim either [
    | inl set ↦ has_used (length new) (changed_at_place at change (state_of b front meta table)) (changed_view b new copies front meta table at s t change x others old.front_within old.sections_within here set)
        (changed_items at change (state_of b front meta table) holds old.items)
    | inr kept ↦ has_used (length new) (state_of b front meta table) (kept_view b new copies front meta table at s t x others old.front_within old.sections_within here kept) old.items
  ];
}
  where
    has_used : (used : ℕ) (state : State) → state_of new front meta (with_section table at t) ≡ with_used used state → HasItems state → HasItems (state_of new front meta (with_section table at t))
    has_used used state is has = subst HasItems (sym is) (record { front = has.front; sections = has.sections })

-- what was asked of the section there
pub asked_at : (P : List SectionItem → Type 0) (b : List ℕ) (front : List Item) (meta : Meta) (table : Sections Section) (at : ℕ) (s : Section)
    → section_at at table ≡ Some s → P (items_of b s.items.items) → IfSome (slice_get (state_of b front meta table).sections at) (λ s. P s.items)
asked_at P b front meta table at s here holds = go (slice_get (map (section_state b) table.entries) at) refl
  where
    go : (o : Option SectionState) → slice_get (map (section_state b) table.entries) at ≡ o → IfSome o (λ s. P s.items)
    go None e = tt
    go (Some u) e = subst P (let h = sym (state_at b s table.entries at here) ∙ ap (option_map (λ (s : SectionState). s.items)) e in cc) holds
