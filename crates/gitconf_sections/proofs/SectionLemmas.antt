-- Numbered sections under the edits of a table, and the rows that hold them.
use Rattle.std.proofs.Common.{◌≡◌, ℕ, zero, suc, ◌+◌, ◌≤◌, ◌<◌, ◌==◌, Bool, true, false, not, cond, nat_lt, List, [], ◌∷◌, ◌++◌, length, get_or, subst, eqb-true, filter, find, position, remove, Option, Some, None, refl, ap, sym, ◌∙◌, append_assoc, add-zero, arith}
use Rattle.std.specs.Option.{option_map}
use Rattle.std.specs.Str.{bytes_eq}
use Rattle.std.proofs.lemmas.Str.Ascii.{lowercase-lowercase}
use Rattle.gitconf_text.specs.Bytes.{fold}
use Rattle.gitconf_text.specs.Names.{is_same_name}
use Rattle.std.specs.List.{AllByRecursion, position_or_len, slice_get}
use Rattle.std.proofs.lemmas.Bool.Decides.{nat_tests}
use Rattle.std.proofs.lemmas.Bool.{ltb-false}
use Rattle.std.proofs.lemmas.List.{append-nil}
use Rattle.std.proofs.lemmas.List.Quantifiers.{position-Some}
use Rattle.std.proofs.lemmas.List.Folds.{find_at}
use Rattle.std.proofs.lemmas.Option.{slice_get-get_or}
use Rattle.gitconf_text.specs.Sections.{SectionEntry, Sections, AreNumbered, changed_at, edited_at, entry_of, has_name, has_number, numbered_from, number_at, place_of, section_at, section_of, with_section}

-- letters in lower case stay
pub fold_again : (name : List ℕ) → fold (fold name) ≡ fold name
fold_again [] = refl
fold_again (b ∷ bs) = λ j. lowercase-lowercase b j ∷ fold_again bs j

-- a name is that of a new section where the section got the same name: for the callers that add sections
pub has_name-new : {T : Type 0} (asked name : List ℕ) (number : ℕ) (subsection : Option (List ℕ)) (section : T) → has_name asked (entry_of number name subsection section) ≡ is_same_name asked name
has_name-new asked name number subsection section = ap (λ bs. bytes_eq (fold asked) bs) (fold_again name)

-- a number below another is another
below_differs : (a n : ℕ) → a < n → (a == n) ≡ false
below_differs a n h = grind (arith, nat_tests)

above_differs : (a n : ℕ) → a < n → (n == a) ≡ false
above_differs a n h = grind (arith, nat_tests)

pub not_placed : (b : Bool) (n : ℕ) → cond b (Some n) None ≡ None → b ≡ false
not_placed true n e = absurd (cc)
not_placed false n e = refl

placed : (b : Bool) (n i : ℕ) → cond b (Some n) None ≡ Some i → n ≡ i
placed true n i e = cc
placed false n i e = absurd (cc)

module _ {T : Type 0} where
  -- no number reaches the next one
  all_below : (next n : ℕ) → next ≤ n → (es : List (SectionEntry T)) → AreNumbered next es → AllByRecursion (λ f. (f.number == n) ≡ false) es
  all_below next n h [] k = tt
  all_below next n h (e ∷ es) k = (below_differs e.number n (omega (arith, k.0)), all_below next n h es k.2)

  -- a greater next number
  later : (next : ℕ) (es : List (SectionEntry T)) → AreNumbered next es → AreNumbered (next + 1) es
  later next [] k = tt
  later next (e ∷ es) k = (omega (arith, k.0), k.1, later next es k.2)

  all_put : (n : ℕ) (a b : List (SectionEntry T)) (e : SectionEntry T) → (e.number == n) ≡ false → AllByRecursion (λ f. (f.number == n) ≡ false) (a ++ b) → AllByRecursion (λ f. (f.number == n) ≡ false) (a ++ e ∷ b)
  all_put n [] b e p k = (p, k)
  all_put n (x ∷ a) b e p k = (k.0, all_put n a b e p k.1)

  -- the next number is given
  pub put_numbered : (next : ℕ) (a b : List (SectionEntry T)) (e : SectionEntry T) → e.number ≡ next → AreNumbered next (a ++ b) → AreNumbered (next + 1) (a ++ e ∷ b)
  put_numbered next [] b e p k = (omega arith, all_below next e.number (omega arith) b k, later next b k)
  put_numbered next (x ∷ a) b e p k =
      (omega (arith, k.0), all_put x.number a b e (above_differs x.number e.number (omega (arith, k.0))) k.1, put_numbered next a b e p k.2)

  all_kept : (n : ℕ) (b : Bool) (x : SectionEntry T) (es : List (SectionEntry T)) → (x.number == n) ≡ false → AllByRecursion (λ f. (f.number == n) ≡ false) es → AllByRecursion (λ f. (f.number == n) ≡ false) (cond b (x ∷ es) es)
  all_kept n true x es p k = (p, k)
  all_kept n false x es p k = k

  all_filtered : (p : SectionEntry T → Bool) (n : ℕ) (es : List (SectionEntry T)) → AllByRecursion (λ f. (f.number == n) ≡ false) es → AllByRecursion (λ f. (f.number == n) ≡ false) (filter p es)
  all_filtered p n [] k = tt
  all_filtered p n (e ∷ es) k = all_kept n (p e) e (filter p es) k.0 (all_filtered p n es k.1)

  numbered_kept : (next : ℕ) (b : Bool) (x : SectionEntry T) (es : List (SectionEntry T)) → x.number < next → AllByRecursion (λ f. (f.number == x.number) ≡ false) es → AreNumbered next es → AreNumbered next (cond b (x ∷ es) es)
  numbered_kept next true x es l o k = (l, o, k)
  numbered_kept next false x es l o k = k

  -- fewer sections
  pub filter_numbered : (p : SectionEntry T → Bool) (next : ℕ) (es : List (SectionEntry T)) → AreNumbered next es → AreNumbered next (filter p es)
  filter_numbered p next [] k = tt
  filter_numbered p next (e ∷ es) k =
      numbered_kept next (p e) e (filter p es) k.0 (all_filtered p e.number es k.1) (filter_numbered p next es k.2)

  all_changed : (f : SectionEntry T → SectionEntry T) → ((e : SectionEntry T) → (f e).number ≡ e.number) → (n : ℕ) (es : List (SectionEntry T)) (i : ℕ) → AllByRecursion (λ g. (g.number == n) ≡ false) es → AllByRecursion (λ g. (g.number == n) ≡ false) (changed_at f es i)
  all_changed f same n [] i k = tt
  all_changed f same n (e ∷ es) zero k = (ap (λ m. m == n) (same e) ∙ k.0, k.1)
  all_changed f same n (e ∷ es) (suc i) k = (k.0, all_changed f same n es i k.1)

  -- a change that keeps the number
  pub changed_numbered : (f : SectionEntry T → SectionEntry T) → ((e : SectionEntry T) → (f e).number ≡ e.number) → (next : ℕ) (es : List (SectionEntry T)) (i : ℕ) → AreNumbered next es → AreNumbered next (changed_at f es i)
  changed_numbered f same next [] i k = tt
  changed_numbered f same next (e ∷ es) zero k =
      (omega (arith, same e, k.0), rw (same e) k.1, k.2)
  changed_numbered f same next (e ∷ es) (suc i) k = (k.0, all_changed f same e.number es i k.1, changed_numbered f same next es i k.2)

  -- a table of those entries
  abbrev pub tables : ℕ → List (SectionEntry T) → Sections T
  tables next entries = record { entries = entries; next = next }

  -- where all have other numbers, all are kept
  others_kept : (n : ℕ) (es : List (SectionEntry T)) → AllByRecursion (λ f. (f.number == n) ≡ false) es → filter (λ e. not (has_number n e)) es ≡ es
  others_kept n [] k = refl
  others_kept n (e ∷ es) k = rw k.0 (ap (λ r. e ∷ r) (others_kept n es k.1))

  -- without the section at the place of a number
  pub filter_remove : (n next : ℕ) (es : List (SectionEntry T)) (i : ℕ) (d : SectionEntry T) → AreNumbered next es → i < length es → has_number n (get_or es i d) ≡ true → ((k : ℕ) → k < i → has_number n (get_or es k d) ≡ false) → filter (λ e. not (has_number n e)) es ≡ remove es i
  filter_remove n next [] i d k within is before = absurd (omega arith)
  filter_remove n next (e ∷ es) zero d k within is before =
      rw is (others_kept n es (subst (λ (m : ℕ). AllByRecursion (λ f. (f.number == m) ≡ false) es) (eqb-true e.number n is) k.1))
  filter_remove n next (e ∷ es) (suc i) d k within is before =
      rw (before 0 (omega arith))
      (ap (λ r. e ∷ r) (filter_remove n next es i d k.2 (omega (arith, within)) is (λ j h. before (suc j) (omega (arith, h)))))

  -- no place: no section has the number
  pub none_has : (n : ℕ) (es : List (SectionEntry T)) → nat_lt (position_or_len (has_number n) es) (length es) ≡ false → AllByRecursion (λ f. (f.number == n) ≡ false) es
  none_has n [] h = tt
  none_has n (e ∷ es) h = go (has_number n e) refl (none_has n es)
    where
      go : (b : Bool) → has_number n e ≡ b → (nat_lt (position_or_len (has_number n) es) (length es) ≡ false → AllByRecursion (λ f. (f.number == n) ≡ false) es) → AllByRecursion (λ f. (f.number == n) ≡ false) (e ∷ es)
      go true p rest = absurd (let l = ltb-false 0 (suc (length es)) (rw p at h) in omega (arith, l))
      go false p rest = (p, rest (let l = rw p at h in grind (arith, nat_tests)))

  -- one more section last
  pub push_numbered : (next : ℕ) (es : List (SectionEntry T)) (e : SectionEntry T) → e.number ≡ next → AreNumbered next es → AreNumbered (next + 1) (es ++ e ∷ [])
  push_numbered next es e p k = put_numbered next es [] e p (rw append-nil k)

  others_none : (n : ℕ) (es : List (SectionEntry T)) → AllByRecursion (λ f. (f.number == n) ≡ false) es → find (has_number n) es ≡ None
  others_none n [] k = refl
  others_none n (e ∷ es) k = rw k.0 (others_none n es k.1)

  -- where a number has no place, it has no section, and nothing is removed
  pub absent_section : (n : ℕ) (es : List (SectionEntry T)) → position (has_number n) es ≡ None → option_map (λ (e : SectionEntry T). e.section) (find (has_number n) es) ≡ None
  absent_section n es h = rw (others_none n es (none_has n es (not_placed _ _ h))) refl

  pub absent_kept : (n : ℕ) (es : List (SectionEntry T)) → position (has_number n) es ≡ None → filter (λ e. not (has_number n e)) es ≡ es
  absent_kept n es h = others_kept n es (none_has n es (not_placed _ _ h))

  -- at its place is its section, and the others stay
  pub placed_removed : (n next : ℕ) (es : List (SectionEntry T)) (i : ℕ) (e : SectionEntry T) → AreNumbered next es → position (has_number n) es ≡ Some i → filter (λ e. not (has_number n e)) es ≡ remove es i
  placed_removed n next es i e k h =
      let facts = position-Some (has_number n) es i e h in
      filter_remove n next es i e k facts.0 facts.1 facts.2

  section_set : (f : T → T) (es : List (SectionEntry T)) (at : ℕ) (s w : T) → option_map (λ (e : SectionEntry T). e.section) (slice_get es at) ≡ Some s → w ≡ f s → changed_at (λ e. record e { section = w }) es at ≡ changed_at (λ e. record e { section = f e.section }) es at
  section_set f [] at s w h e = refl
  section_set f (x ∷ es) zero s w h e =
      let same : x.section ≡ s = cc in
      ap (λ (v : T). record x { section = v } ∷ es) (e ∙ ap f (sym same))
  section_set f (x ∷ es) (suc at) s w h e = ap (λ (ys : List (SectionEntry T)). x ∷ ys) (section_set f es at s w h e)

  -- a section that was lent and left as f of what it held: for the callers of `at_mut`
  pub section_edited : (f : T → T) (all : Sections T) (at : ℕ) (s w : T) → section_at at all ≡ Some s → w ≡ f s → with_section all at w ≡ edited_at f at all
  section_edited f all at s w h e = ap (tables all.next) (section_set f all.entries at s w h e)

  abbrev pub shown : SectionEntry T → ℕ × T
  shown e = (e.number, e.section)

  -- sections that are put between others get the next numbers
  pub all_numbered : (next : ℕ) (a fs b : List (SectionEntry T)) → AreNumbered next (a ++ b) → AreNumbered (next + length fs) (a ++ numbered_from next fs ++ b)
  all_numbered next a [] b k = rw (append-nil, add-zero) k
  all_numbered next a (f ∷ fs) b k =
      let e : SectionEntry T = record f { number = next } in
      let put : AreNumbered (next + 1) ((a ++ e ∷ []) ++ b) = rw append_assoc (put_numbered next a b e refl k) in
      let more : AreNumbered (next + 1 + length fs) ((a ++ e ∷ []) ++ numbered_from (next + 1) fs ++ b) = all_numbered (next + 1) (a ++ e ∷ []) fs b put in
      let lists : a ++ (e ∷ numbered_from (next + 1) fs) ≡ (a ++ e ∷ []) ++ numbered_from (next + 1) fs = sym (append_assoc a (e ∷ []) (numbered_from (next + 1) fs)) in
      let sums : next + length (f ∷ fs) ≡ next + 1 + length fs = omega arith in
      rw (sums, lists) more

  pub all_last_numbered : (next : ℕ) (es fs : List (SectionEntry T)) → AreNumbered next es → AreNumbered (next + length fs) (es ++ numbered_from next fs)
  all_last_numbered next es fs k = subst (AreNumbered (next + length fs)) (append-nil (es ++ numbered_from next fs)) (all_numbered next es fs [] (rw append-nil k))

  -- at its place is the section of a number: for callers that know a place
  pub section_of-place : (id : ℕ) (all : Sections T) (at : ℕ) → place_of id all ≡ Some at → section_of id all ≡ section_at at all
  section_of-place id all at h =
      ap (option_map (λ (e : SectionEntry T). e.section)) (find_at (has_number id) all.entries ∙ ap (slice_get all.entries) (placed _ _ _ h))

  its_number : (id : ℕ) (es : List (SectionEntry T)) (at : ℕ) → position (has_number id) es ≡ Some at → option_map (λ (e : SectionEntry T). e.number) (slice_get es at) ≡ Some id
  its_number id [] at h = absurd (cc)
  its_number id (e ∷ es) at h =
      let facts = position-Some (has_number id) (e ∷ es) at e h in
      rw (slice_get-get_or (e ∷ es) at e facts.0) (ap (λ (n : ℕ). Some n) (eqb-true _ id facts.1))

  pub number_at-place : (id : ℕ) (all : Sections T) (at : ℕ) → place_of id all ≡ Some at → number_at at all ≡ Some id
  number_at-place id all at h = its_number id all.entries at h
