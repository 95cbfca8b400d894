-- Sections of another table after those of a table, and items held after the last one.
use Rattle.std.proofs.Common.{◌≡◌, ℕ, zero, suc, ◌+◌, ◌<◌, List, [], ◌∷◌, ◌++◌, length, map, take, drop, Some, refl, ap, sym, subst, ◌∙◌, arith, append-nil, length-append}
use Rattle.std.proofs.lemmas.List.{map-append}
use Rattle.std.specs.List.{AllByRecursion, slice_get}
use Rattle.std.specs.Option.{option_map}
use Rattle.gitconf_items.specs.declared.items.Item.{Item}
use Rattle.gitconf_items.specs.declared.event.Event.TheVariants as kinds
use Rattle.gitconf_items.specs.ItemsFit.{AreItemsWithin}
use Rattle.gitconf_items.specs.ShownEvents.{IsShown}
use Rattle.gitconf_items.specs.Events.{header_of}
use Rattle.gitconf_text.specs.Bytes.{fold}
use Rattle.gitconf_text.specs.Header.{name_of, subsection_of}
use Rattle.gitconf_text.specs.Sections.{SectionEntry, Sections, changed_at}
use Rattle.gitconf_text.specs.Sections as table
use Rattle.gitconf_state.specs.Edits.{numbered_from}
use Rattle.gitconf_state.proofs.Edits.Keep.{holds_appended}
use Rattle.gitconf_items.specs.Items.{items_of}
use Rattle.gitconf_sections.proofs.SectionLemmas.{section_edited}
use Rattle.gitconf_sections.specs.Section.{Section, holding}
use Rattle.gitconf_sections.proofs.Adding.{edited_before, stays_before}
use Rattle.gitconf_sections.proofs.Edits.{put_again, there_is}
use Rattle.gitconf_views.specs.Joining.{held_at, AreBehind, AreSame}
use Rattle.gitconf_views.specs.Store.{section_state, SectionFits}

-- the same section, with that many items more held after it
pub record HoldsMore (more : List Item) (s t : Section) : Type 0 where
  pub header : t.header ≡ s.header
  pub meta : t.meta ≡ s.meta
  pub items : t.items ≡ s.items
  pub held : t.held.items ≡ s.held.items ++ more

abbrev pub set_section : Section → SectionEntry Section → SectionEntry Section
set_section t e = record e { section = t }

abbrev pub is_at : List (SectionEntry Section) → ℕ → Section → Type 0
is_at es at s = option_map (λ (e : SectionEntry Section). e.section) (slice_get es at) ≡ Some s

-- items in two lists
pub items_both : (b : List ℕ) (xs ys : List Item) → items_of b (xs ++ ys) ≡ items_of b xs ++ items_of b ys
items_both b [] ys = refl
items_both b (x ∷ xs) ys = λ i. Rattle.gitconf_items.specs.Items.item_of b x ∷ items_both b xs ys i

pub within_both : (n : ℕ) (xs ys : List Item) → AreItemsWithin n xs → AreItemsWithin n ys → AreItemsWithin n (xs ++ ys)
within_both n [] ys first second = second
within_both n (x ∷ xs) ys first second = (first.0, within_both n xs ys first.1 second)

-- under new numbers they say and fit as before
pub numbered_states : (b : List ℕ) (next : ℕ) (es : List (SectionEntry Section)) → map (section_state b) (table.numbered_from next es) ≡ numbered_from next (map (section_state b) es)
numbered_states b next [] = refl
numbered_states b next (e ∷ es) = ap (λ ss. section_state b (record e { number = next }) ∷ ss) (numbered_states b (next + 1) es)

pub numbered_fit : (b copies : List ℕ) (next : ℕ) (es : List (SectionEntry Section)) → AllByRecursion (SectionFits b copies) es → AllByRecursion (SectionFits b copies) (table.numbered_from next es)
numbered_fit b copies next [] fits = tt
numbered_fit b copies next (e ∷ es) fits =
    (record { header = fits.0.header; items = fits.0.items; held = fits.0.held; name = fits.0.name; subsection = fits.0.subsection }, numbered_fit b copies (next + 1) es fits.1)

-- a section that holds more
held_state : (b : List ℕ) (more : List Item) (e : SectionEntry Section) (s v : Section) → e.section ≡ s → HoldsMore more s v
    → section_state b (set_section v e) ≡ record { number = e.number; header = header_of b e.section.header; meta = e.section.meta.value; items = items_of b e.section.items.items; held = items_of b e.section.held.items ++ items_of b more }
held_state b more e s v is holds = λ i. record {
  number = e.number;
  header = (ap (header_of b) (holds.header ∙ ap (λ s. s.header) (sym is))) i;
  meta = (ap (λ m. m.value) (holds.meta ∙ ap (λ s. s.meta) (sym is))) i;
  items = (ap (λ is. items_of b is.items) (holds.items ∙ ap (λ s. s.items) (sym is))) i;
  held = (ap (items_of b) (holds.held ∙ ap (λ s. s.held.items ++ more) (sym is)) ∙ items_both b e.section.held.items more) i;
}

held_fits : (b copies : List ℕ) (more : List Item) (e : SectionEntry Section) (s v : Section) → e.section ≡ s → HoldsMore more s v → SectionFits b copies e → AreItemsWithin (length b) more
    → SectionFits b copies (set_section v e)
held_fits b copies more e s v is holds fits within =
    let header : e.section.header ≡ v.header = ap (λ s. s.header) is ∙ sym holds.header in
    record {
      header = subst (λ h. IsShown b copies (kinds.SectionHeader h)) header fits.header;
      items = subst (λ is. AreItemsWithin (length b) is.items) (ap (λ s. s.items) is ∙ sym holds.items) fits.items;
      held = subst (AreItemsWithin (length b)) (ap (λ s. s.held.items ++ more) is ∙ sym holds.held) (within_both (length b) e.section.held.items more fits.held within);
      name = fits.name ∙ ap (λ h. fold (name_of (header_of b h))) header;
      subsection = fits.subsection ∙ ap (λ h. subsection_of (header_of b h)) header;
    }

-- with other room alone
pub room_states : (b : List ℕ) (es : List (SectionEntry Section)) (at : ℕ) (s t : Section) → is_at es at s → HoldsMore [] s t → map (section_state b) (changed_at (set_section t) es at) ≡ map (section_state b) es
room_states b [] at s t here holds = refl
room_states b (e ∷ es) (suc at) s t here holds = ap (λ ss. section_state b e ∷ ss) (room_states b es at s t here holds)
room_states b (e ∷ es) zero s t here holds =
    let is : e.section ≡ s = cc in
    ap (λ x. x ∷ map (section_state b) es) (held_state b [] e s t is holds
    ∙ (λ i. record { number = e.number; header = header_of b e.section.header; meta = e.section.meta.value; items = items_of b e.section.items.items; held = append-nil (items_of b e.section.held.items) i }))

pub room_fit : (b copies : List ℕ) (es : List (SectionEntry Section)) (at : ℕ) (s t : Section) → is_at es at s → HoldsMore [] s t → AllByRecursion (SectionFits b copies) es
    → AllByRecursion (SectionFits b copies) (changed_at (set_section t) es at)
room_fit b copies [] at s t here holds fits = tt
room_fit b copies (e ∷ es) (suc at) s t here holds fits = (fits.0, room_fit b copies es at s t here holds fits.1)
room_fit b copies (e ∷ es) zero s t here holds fits = let is : e.section ≡ s = cc in (held_fits b copies [] e s t is holds fits.0 tt, fits.1)

-- what is at the place then
pub room_at : (es others : List (SectionEntry Section)) (at : ℕ) (s t u : Section) → is_at es at s → is_at (changed_at (set_section t) es at ++ others) at u → u ≡ t
room_at [] others at s t u here there = absurd (cc)
room_at (e ∷ es) others (suc at) s t u here there = room_at es others at s t u here there
room_at (e ∷ es) others zero s t u here there = let is : t ≡ u = cc in sym is

-- the one at the place holds more
pub held_states : (b : List ℕ) (more : List Item) (es others : List (SectionEntry Section)) (at : ℕ) (s t v : Section) → is_at es at s → HoldsMore more s v
    → map (section_state b) (changed_at (set_section v) (changed_at (set_section t) es at ++ others) at) ≡ held_at (items_of b more) at (map (section_state b) es) ++ map (section_state b) others
held_states b more [] others at s t v here holds = absurd (cc)
held_states b more (e ∷ es) others zero s t v here holds =
    let is : e.section ≡ s = cc in (λ i. held_state b more e s v is holds i ∷ map-append (section_state b) es others i)
held_states b more (e ∷ es) others (suc at) s t v here holds =
    ap (λ ss. section_state b e ∷ ss) (held_states b more es others at s t v here holds)

pub held_fit : (b copies : List ℕ) (more : List Item) (es others : List (SectionEntry Section)) (at : ℕ) (s t v : Section) → is_at es at s → HoldsMore more s v → AllByRecursion (SectionFits b copies) es
    → AllByRecursion (SectionFits b copies) others → AreItemsWithin (length b) more → AllByRecursion (SectionFits b copies) (changed_at (set_section v) (changed_at (set_section t) es at ++ others) at)
held_fit b copies more [] others at s t v here holds fits theirs within = absurd (cc)
held_fit b copies more (e ∷ es) others zero s t v here holds fits theirs within =
    let is : e.section ≡ s = cc in (held_fits b copies more e s v is holds fits.0 within, holds_appended (SectionFits b copies) es others fits.1 theirs)
held_fit b copies more (e ∷ es) others (suc at) s t v here holds fits theirs within = (fits.0, held_fit b copies more es others at s t v here holds fits.1 theirs within)

-- all put after all
pub put_behind_all : {A : Type 0} (n : ℕ) (xs ys : List A) → n ≡ length xs → take n xs ++ ys ++ drop n xs ≡ xs ++ ys
put_behind_all n [] ys is = rw is (append-nil ys)
put_behind_all n (x ∷ xs) ys is = rw is (ap (λ zs. x ∷ zs) (put_behind_all (length xs) xs ys refl))

changed_count : (es : List (SectionEntry Section)) (at : ℕ) (t : Section) → length (changed_at (set_section t) es at) ≡ length es
changed_count [] at t = refl
changed_count (e ∷ es) zero t = refl
changed_count (e ∷ es) (suc at) t = ap suc (changed_count es at t)

-- room was made in the last section's list, and the other's sections were put after all
module _ (old other new : Sections Section) (at count : ℕ) (s t : Section) (here : is_at old.entries at s) (holds : HoldsMore [] s t) where
  pub room_made : AreSame old (table.with_section old at t)
  room_made = record {
    next = refl;
    states = λ b. room_states b old.entries at s t here holds;
    fit = λ b copies fits. room_fit b copies old.entries at s t here holds fits;
  }

  module _ (all : count ≡ length (changed_at (set_section t) old.entries at)) (put : new ≡ table.with_all count other (table.with_section old at t)) where
    put_entries : new.entries ≡ changed_at (set_section t) old.entries at ++ table.numbered_from old.next other.entries
    put_entries = ap (λ (n : Sections Section). n.entries) put ∙ put_behind_all count (changed_at (set_section t) old.entries at) (table.numbered_from old.next other.entries) all

    pub still_within : at < length old.entries → at < length new.entries
    still_within within =
        let n = ap length put_entries in
        let l = length-append (changed_at (set_section t) old.entries at) (table.numbered_from old.next other.entries) in
        let k = changed_count old.entries at t in
        omega (arith, within, n, l, k)

    pub same_there : (u : Section) → is_at new.entries at u → u ≡ t
    same_there u there = room_at old.entries (table.numbered_from old.next other.entries) at s t u here (subst (λ es. is_at es at u) put_entries there)

    pub put_behind : (more : List Item) (v : Section) → HoldsMore more s v → AreBehind at more other old (table.with_section new at v)
    put_behind more v more_held = record {
      next = ap (λ (n : Sections Section). n.next) put;
      states = λ b. ap (λ es. map (section_state b) (changed_at (set_section v) es at)) put_entries
          ∙ held_states b more old.entries (table.numbered_from old.next other.entries) at s t v here more_held
          ∙ ap (λ ss. held_at (items_of b more) at (map (section_state b) old.entries) ++ ss) (numbered_states b old.next other.entries);
      fit = λ b copies fits theirs within. subst (λ es. AllByRecursion (SectionFits b copies) (changed_at (set_section v) es at)) (sym put_entries)
          (held_fit b copies more old.entries (table.numbered_from old.next other.entries) at s t v here more_held fits (numbered_fit b copies old.next other.entries theirs) within);
    }

-- The section at a place holds more, and the other's sections follow all.
pub put_behind_held : (old other new : Sections Section) (at : ℕ) (more : List Item) → at < length old.entries → new ≡ table.with_all (length old.entries) other (table.edited_at (holding more) at old)
    → AreBehind at more other old new
put_behind_held old other new at more within put =
    let found = there_is old at within in
    let s = found.0 in
    let here = found.1 in
    let mid = table.with_all (length old.entries) other old in
    let none : HoldsMore [] s s = record { header = refl; meta = refl; items = refl; held = sym (append-nil s.held.items) } in
    let held : HoldsMore more s (holding more s) = record { header = refl; meta = refl; items = refl; held = refl } in
    let now : new ≡ table.with_section mid at (holding more s) =
    put ∙ sym (edited_before (holding more) old other at within) ∙ sym (section_edited (holding more) mid at s (holding more s) (stays_before old other at s here) refl) in
    let again : mid ≡ table.with_all (length old.entries) other (table.with_section old at s) = ap (table.with_all (length old.entries) other) (sym (put_again old at s here)) in
    subst (AreBehind at more other old) (sym now) (put_behind old other mid at (length old.entries) s s here none (sym (changed_count old.entries at s)) again more (holding more s) held)

-- after no section
pub put_behind_none : (old other new : Sections Section) (at : ℕ) (more : List Item) → old.entries ≡ [] → new ≡ table.with_all 0 other old → AreBehind at more other old new
put_behind_none old other new at more none put =
    let entries : new.entries ≡ table.numbered_from old.next other.entries =
    ap (λ (n : Sections Section). n.entries) put ∙ ap (λ es. table.numbered_from old.next other.entries ++ drop 0 es) none ∙ append-nil (table.numbered_from old.next other.entries) in
    record {
      next = ap (λ (n : Sections Section). n.next) put;
      states = λ b. ap (map (section_state b)) entries
          ∙ numbered_states b old.next other.entries
          ∙ ap (λ es. held_at (items_of b more) at (map (section_state b) es) ++ numbered_from old.next (map (section_state b) other.entries)) (sym none);
      fit = λ b copies fits theirs within. subst (AllByRecursion (SectionFits b copies)) (sym entries) (numbered_fit b copies old.next other.entries theirs);
    }

pub same_sections : (old new : Sections Section) → new ≡ old → AreSame old new
same_sections old new is = rw is (record { next = refl; states = λ b. refl; fit = λ b copies fits. fits })
