-- Sections of a table that are moved one by one.
use Rattle.std.proofs.Common.{◌≡◌, ℕ, zero, suc, List, [], ◌∷◌, length, Some, refl, ap, sym, subst}
use Rattle.std.specs.List.{AllByRecursion, AllZip, slice_get}
use Rattle.std.specs.Option.{option_map}
use Rattle.gitconf_text.specs.Sections.{SectionEntry, Sections, changed_at}
use Rattle.gitconf_items.proofs.Moves.{AreChanged}
use Rattle.gitconf_sections.specs.Section.{Section}
use Rattle.gitconf_sections.specs.Moves.{IsMovable, IsSectionMoved}
use Rattle.gitconf_views.specs.Moves.{IsEntryMoved}

-- the first ones were moved
pub record AreMovedTo (by copies_by count : ℕ) (old new : Sections Section) : Type 0 where
  pub next : new.next ≡ old.next
  pub entries : AreChanged (IsEntryMoved by copies_by) count old.entries new.entries

module _ (by copies_by : ℕ) where
  -- the next one is as it was
  pub next_movable : (count : ℕ) (old new : List (SectionEntry Section)) (s : Section) → AreChanged (IsEntryMoved by copies_by) count old new → option_map (λ (e : SectionEntry Section). e.section) (slice_get new count) ≡ Some s
      → AllByRecursion (λ (e : SectionEntry Section). IsMovable by copies_by e.section) old → IsMovable by copies_by s
  next_movable zero [] new s are here all = absurd (let h = ap (λ xs. option_map (λ (e : SectionEntry Section). e.section) (slice_get xs 0)) are in cc)
  next_movable zero (x ∷ old) new s are here all =
      let h = ap (λ xs. option_map (λ (e : SectionEntry Section). e.section) (slice_get xs 0)) are in
      let same : x.section ≡ s = cc in
      subst (IsMovable by copies_by) same all.0
  next_movable (suc count) [] new s are here all = absurd (let h = ap (λ xs. option_map (λ (e : SectionEntry Section). e.section) (slice_get xs (suc count))) are in cc)
  next_movable (suc count) (x ∷ old) [] s are here all = elim are [ ]
  next_movable (suc count) (x ∷ old) (y ∷ new) s are here all = next_movable count old new s are.1 here all.1

  -- it is moved
  pub next_moved : (count : ℕ) (old new : List (SectionEntry Section)) (s t : Section) → AreChanged (IsEntryMoved by copies_by) count old new → option_map (λ (e : SectionEntry Section). e.section) (slice_get new count) ≡ Some s
      → IsSectionMoved by copies_by s t → AreChanged (IsEntryMoved by copies_by) (suc count) old (changed_at (λ e. record e { section = t }) new count)
  next_moved zero [] new s t are here moved = absurd (let h = ap (λ xs. option_map (λ (e : SectionEntry Section). e.section) (slice_get xs 0)) are in cc)
  next_moved zero (x ∷ old) new s t are here moved =
      let h = ap (λ xs. option_map (λ (e : SectionEntry Section). e.section) (slice_get xs 0)) are in
      let same : s ≡ x.section = cc in
      subst (λ xs. AreChanged (IsEntryMoved by copies_by) 1 (x ∷ old) (changed_at (λ (e : SectionEntry Section). record e { section = t }) xs 0)) (sym are)
      (record { number = refl; name = refl; subsection = refl; section = subst (λ w. IsSectionMoved by copies_by w t) same moved }, refl)
  next_moved (suc count) [] new s t are here moved = absurd (let h = ap (λ xs. option_map (λ (e : SectionEntry Section). e.section) (slice_get xs (suc count))) are in cc)
  next_moved (suc count) (x ∷ old) [] s t are here moved = elim are [ ]
  next_moved (suc count) (x ∷ old) (y ∷ new) s t are here moved = (are.0, next_moved count old new s t are.1 here moved)

-- all were changed
pub all_changed : {A : Type 0} (change : A → A → Type 0) (old new : List A) → AreChanged change (length old) old new → AllZip change old new
all_changed change [] new are = rw are tt
all_changed change (x ∷ old) [] are = elim are [ ]
all_changed change (x ∷ old) (y ∷ new) are = (are.0, all_changed change old new are.1)
