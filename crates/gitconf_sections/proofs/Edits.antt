-- A section whose items are removed, changed and put back.
use Rattle.std.proofs.Common.{◌≡◌, ℕ, ◌<◌, zero, suc, arith, length, List, [], ◌∷◌, ◌++◌, Option, Some, None, refl, ap, sym, ◌∙◌}
use Rattle.std.specs.List.{slice_get}
use Rattle.std.specs.Option.{option_map}
use Rattle.std.specs.Prelude.{IfSome}
use Rattle.gitconf_items.specs.declared.items.Item.{Item}
use Rattle.gitconf_text.specs.Sections.{SectionEntry, Sections, changed_at, edited_at, section_at, with_section}
use Rattle.gitconf_sections.proofs.SectionLemmas.{section_edited, tables}
use Rattle.gitconf_sections.specs.Section.{Section, holding, with_items}
use Rattle.gitconf_sections.proofs.Adding.{length-changed}

-- one change after another
changed_twice : {T : Type 0} (f g : T → T) (es : List (SectionEntry T)) (at : ℕ)
    → changed_at (λ e. record e { section = f e.section }) (changed_at (λ e. record e { section = g e.section }) es at) at ≡ changed_at (λ e. record e { section = f (g e.section) }) es at
changed_twice f g [] at = refl
changed_twice f g (e ∷ es) zero = refl
changed_twice f g (e ∷ es) (suc at) = ap (λ ds. e ∷ ds) (changed_twice f g es at)

pub edited_twice : {T : Type 0} (f g : T → T) (at : ℕ) (all : Sections T) → edited_at f at (edited_at g at all) ≡ edited_at (λ s. f (g s)) at all
edited_twice f g at all = λ i. record { entries = changed_twice f g all.entries at i; next = all.next }

-- what is at a place among them
pub there_is : {T : Type 0} (all : Sections T) (at : ℕ) → at < length all.entries → (s : T) × (section_at at all ≡ Some s)
there_is {T} all at within = go all.entries at within
  where
    go : (es : List (SectionEntry T)) (n : ℕ) → n < length es → (s : T) × (option_map (λ (e : SectionEntry T). e.section) (slice_get es n) ≡ Some s)
    go [] n within = absurd (omega (arith, within))
    go (e ∷ es) zero within = (e.section, refl)
    go (e ∷ es) (suc n) within = go es n (omega (arith, within))

-- of each that may be there
pub if_there : {T : Type 0} {P : T → Type 0} (o : Option T) → ((s : T) → o ≡ Some s → P s) → IfSome o P
if_there None f = tt
if_there (Some s) f = f s refl

-- what is at a place put there again
same_there : {T : Type 0} (es : List (SectionEntry T)) (at : ℕ) (s : T) → option_map (λ (e : SectionEntry T). e.section) (slice_get es at) ≡ Some s → changed_at (λ e. record e { section = s }) es at ≡ es
same_there [] at s here = refl
same_there (e ∷ es) zero s here = let is : e.section ≡ s = cc in ap (λ (t : _). record e { section = t } ∷ es) (sym is)
same_there (e ∷ es) (suc at) s here = ap (λ ds. e ∷ ds) (same_there es at s here)

pub put_again : {T : Type 0} (table : Sections T) (at : ℕ) (r : T) → section_at at table ≡ Some r → with_section table at r ≡ table
put_again table at r here = ap (tables table.next) (same_there table.entries at r here)

-- The section whose items these are, and the list with other items of it put back.
pub record IsTaken (all taken : Sections Section) (at : ℕ) (items : List Item) : Type 0 where
  pub kept : Section
  pub here : section_at at all ≡ Some (with_items items kept)
  pub back : (put : Sections Section) (new : List Item) → put ≡ edited_at (with_items new) at taken → put ≡ with_section all at (with_items new kept)

pub is_taken : (all taken : Sections Section) (at : ℕ) (items : List Item) → option_map (λ (s : Section). s.items.items) (section_at at all) ≡ Some items
    → taken ≡ edited_at (with_items []) at all → IsTaken all taken at items
is_taken all taken at items had is = go (section_at at all) refl had
  where
    go : (o : Option Section) → section_at at all ≡ o → option_map (λ (s : Section). s.items.items) o ≡ Some items → IsTaken all taken at items
    go None there had = absurd (cc)
    go (Some s) there had =
        let same : s.items.items ≡ items = cc in
        record {
          kept = s;
          here = there ∙ ap (λ xs. Some (with_items xs s)) same;
          back = λ put new p. p ∙ ap (edited_at (with_items new) at) is ∙ edited_twice (with_items new) (with_items []) at all ∙ sym (section_edited (with_items new) all at s (with_items new s) there refl);
        }

-- there are as many as before
pub edited_within : {T : Type 0} (f : T → T) (all edited : Sections T) (at : ℕ) → edited ≡ edited_at f at all → at < length all.entries → at < length edited.entries
edited_within f all edited at is within =
    let same = ap (λ (t : Sections _). length t.entries) is ∙ length-changed (λ e. record e { section = f e.section }) all.entries at in
    omega (arith, same, within)

pub taken_within : (all taken : Sections Section) (at : ℕ) → taken ≡ edited_at (with_items []) at all → at < length all.entries → at < length taken.entries
taken_within all taken at is within = edited_within (with_items []) all taken at is within

-- what is held at a place, put there again
pub held_back : (all : Sections Section) (at : ℕ) (h : List Item) → option_map (λ (s : Section). s.held.items) (section_at at all) ≡ Some h → edited_at (λ s. record s { held = record { items = h } }) at all ≡ all
held_back all at h had = ap (tables all.next) (go all.entries at had)
  where
    go : (es : List (SectionEntry Section)) (n : ℕ) → option_map (λ (s : Section). s.held.items) (option_map (λ (e : SectionEntry Section). e.section) (slice_get es n)) ≡ Some h
        → changed_at (λ e. record e { section = record e.section { held = record { items = h } } }) es n ≡ es
    go [] n had = refl
    go (e ∷ es) zero had = let same : e.section.held.items ≡ h = cc in ap (λ (xs : List Item). record e { section = record e.section { held = record { items = xs } } } ∷ es) (sym same)
    go (e ∷ es) (suc n) had = ap (λ ds. e ∷ ds) (go es n had)

-- and with more
pub held_more : (all : Sections Section) (at : ℕ) (h more : List Item) → option_map (λ (s : Section). s.held.items) (section_at at all) ≡ Some h
    → edited_at (λ s. record s { held = record { items = h ++ more } }) at all ≡ edited_at (holding more) at all
held_more all at h more had = ap (tables all.next) (go all.entries at had)
  where
    go : (es : List (SectionEntry Section)) (n : ℕ) → option_map (λ (s : Section). s.held.items) (option_map (λ (e : SectionEntry Section). e.section) (slice_get es n)) ≡ Some h
        → changed_at (λ e. record e { section = record e.section { held = record { items = h ++ more } } }) es n ≡ changed_at (λ e. record e { section = holding more e.section }) es n
    go [] n had = refl
    go (e ∷ es) zero had = let same : e.section.held.items ≡ h = cc in ap (λ (xs : List Item). record e { section = record e.section { held = record { items = xs ++ more } } } ∷ es) (sym same)
    go (e ∷ es) (suc n) had = ap (λ ds. e ∷ ds) (go es n had)
