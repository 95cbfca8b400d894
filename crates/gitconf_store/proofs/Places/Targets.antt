-- The last section of a name and subsection that passes: its place is that of its number.
use Rattle.std.proofs.Common.{◌≡◌, ◌⊎◌, inl, inr, ℕ, ◌+◌, ◌==◌, Bool, true, false, nat_lt, List, [], ◌∷◌, ◌++◌, length, map, Option, Some, None, refl, ap, sym, subst, ◌∙◌, arith}
use Rattle.std.specs.List.{list_any, last_or, position_or_len, AllByRecursion}
use Rattle.std.specs.Option.{option_map}
use Rattle.std.specs.Prelude.{filter, position, slice_get, IfSome}
use Rattle.std.proofs.lemmas.Bool.{eq-eqb, lt-ltb, ne_eqb, eqb-false}
use Rattle.std.proofs.lemmas.List.{map-append, length-map, length-append}
use Rattle.gitconf_sources.specs.Metadata.{Meta}
use Rattle.gitconf_text.specs.Sections.{SectionEntry, AreNumbered, has_number}
use Rattle.gitconf_state.specs.Edit.{is_target}
use Rattle.gitconf_state.specs.Lookup.{is_named, listing}
use Rattle.gitconf_state.specs.State.{SectionState}
use Rattle.gitconf_body.specs.Places.{IsLastPlace}
use Rattle.gitconf_sections.specs.Section.{Section}
use Rattle.gitconf_lookups.specs.SomeSections.{AreSome}
use Rattle.gitconf_views.specs.Store.{section_state}
use Rattle.gitconf_lookups.specs.Walks.{passing}
use Rattle.gitconf_store.proofs.Places.Numbering.{filter_both, last_of_some}
use Rattle.gitconf_lookups.proofs.SectionsKept.{any_of_none}

-- what holds of all holds of each
parts_fit : {A : Type 0} (P : A → Type 0) (before : List A) (x : A) (behind : List A) → AllByRecursion P (before ++ x ∷ behind) → P x × AllByRecursion P behind
parts_fit P [] x behind all = all
parts_fit P (y ∷ before) x behind all = parts_fit P before x behind all.1

-- a number has one place
place_before : (next : ℕ) (before : List (SectionEntry Section)) (found : SectionEntry Section) (behind : List (SectionEntry Section)) → AreNumbered next (before ++ found ∷ behind)
    → position_or_len (has_number found.number) (before ++ found ∷ behind) ≡ length before
place_before next [] found behind once = rw (eq-eqb found.number found.number refl) refl
place_before next (e ∷ before) found behind once =
    let apart = (parts_fit (λ (f : SectionEntry Section). (f.number == e.number) ≡ false) before found behind once.1).0 in
    let other : has_number found.number e ≡ false = ne_eqb e.number found.number (λ same. eqb-false found.number e.number apart (sym same)) in
    rw other (ap (λ n. 1 + n) (place_before next before found behind once.2) ∙ omega arith)

pub place_of_number : (next : ℕ) (before : List (SectionEntry Section)) (found : SectionEntry Section) (behind : List (SectionEntry Section)) → AreNumbered next (before ++ found ∷ behind)
    → position (has_number found.number) (before ++ found ∷ behind) ≡ Some (length before)
place_of_number next before found behind once =
    let at = place_before next before found behind once in
    let within : nat_lt (length before) (length (before ++ found ∷ behind)) ≡ true = lt-ltb _ _ (rw length-append (omega arith)) in
    rw (at, within) refl

-- one of a list
abbrev IsIn : {A : Type 0} → A → List A → Type 0
IsIn x [] = ⊥
IsIn x (y ∷ ys) = (y ≡ x) ⊎ IsIn x ys

in_last : {A : Type 0} (o : Option A) (xs : List A) (x : A) → last_or o xs ≡ Some x → (o ≡ Some x) ⊎ IsIn x xs
in_last o [] x is = inl is
in_last o (y ∷ ys) x is = elim (in_last (Some y) ys x is) [ inl here ↦ inr (inl (let same : y ≡ x = cc in same)) | inr later ↦ inr (inr later) ]

in_kept : {A : Type 0} (test : A → Bool) (xs : List A) (x : A) → IsIn x (filter test xs) → IsIn x xs × (test x ≡ true)
in_kept test [] x has = absurd has
in_kept {A} test (y ∷ ys) x has = go (test y) refl has (in_kept test ys x)
  where
    go : (b : Bool) → test y ≡ b → IsIn x (filter test (y ∷ ys)) → (IsIn x (filter test ys) → IsIn x ys × (test x ≡ true)) → IsIn x (y ∷ ys) × (test x ≡ true)
    go false fails has later = let found = later (rw fails at has) in (inr found.0, found.1)
    go true passes has later = elim (rw passes at has) [ inl here ↦ (inl here, ap test (sym here) ∙ passes) | inr behind ↦ (let found = later behind in (inr found.0, found.1)) ]

in_some : {A : Type 0} (all some : List A) (x : A) → AreSome all some → IsIn x some → IsIn x all
in_some [] some x are has = absurd (subst (IsIn x) are has)
in_some (y ∷ all) some x (inr are) has = inr (in_some all some x are has)
in_some (y ∷ all) some x (inl (rest, is, are)) has = elim (subst (IsIn x) is has) [ inl here ↦ inl here | inr behind ↦ inr (in_some all rest x are behind) ]

-- the section of the table that stands for one of the state
record Held (b : List ℕ) (es : List (SectionEntry Section)) (s : SectionState) : Type 0 where
  before : List (SectionEntry Section)
  found : SectionEntry Section
  behind : List (SectionEntry Section)
  is : es ≡ before ++ found ∷ behind
  shown : section_state b found ≡ s

held : (b : List ℕ) (es : List (SectionEntry Section)) (s : SectionState) → IsIn s (map (section_state b) es) → Held b es s
held b [] s has = absurd has
held b (e ∷ es) s (inl here) = record { before = []; found = e; behind = es; is = refl; shown = here }
held b (e ∷ es) s (inr later) = let h = held b es s later in record { before = e ∷ h.before; found = h.found; behind = h.behind; is = ap (λ xs. e ∷ xs) h.is; shown = h.shown }

-- it stands at the place of its number
held_place : (b : List ℕ) (next : ℕ) (es : List (SectionEntry Section)) (s : SectionState) (h : Held b es s) → AreNumbered next es → position (has_number s.number) es ≡ Some (length h.before)
held_place b next es s h once =
    ap (λ (t : SectionState). position (has_number t.number) es) (sym h.shown) ∙ ap (position (has_number h.found.number)) h.is
    ∙ place_of_number next h.before h.found h.behind (subst (AreNumbered next) h.is once)

-- what stands at the place
pub stands_at : {A : Type 0} (before : List A) (found : A) (behind : List A) → slice_get (before ++ found ∷ behind) (length before) ≡ Some found
stands_at [] found behind = refl
stands_at (x ∷ before) found behind = stands_at before found behind

held_there : (b : List ℕ) (es : List (SectionEntry Section)) (s : SectionState) (h : Held b es s) → slice_get (map (section_state b) es) (length h.before) ≡ Some s
held_there b es s h =
    ap (λ xs. slice_get (map (section_state b) xs) (length h.before)) h.is
    ∙ ap (λ xs. slice_get xs (length h.before)) (map-append (section_state b) h.before (h.found ∷ h.behind))
    ∙ ap (slice_get (map (section_state b) h.before ++ section_state b h.found ∷ map (section_state b) h.behind)) (sym (length-map h.before (section_state b)))
    ∙ stands_at (map (section_state b) h.before) (section_state b h.found) (map (section_state b) h.behind) ∙ ap Some h.shown

-- What a walk found, whatever the filter answered, is one of the sections of the names.
module _ (b name : List ℕ) (subsection : Option (List ℕ)) (next : ℕ) (es : List (SectionEntry Section)) (s : SectionState) (some : List SectionState) where
  abbrev named : SectionState → Bool
  named s = is_named name subsection (listing s)

  in_names : AreSome (filter named (map (section_state b) es)) some → Some s ≡ last_or None (passing (λ _. true) some) → IsIn s (map (section_state b) es) × (named s ≡ true)
  in_names are is = in_kept named (map (section_state b) es) s (in_some (filter named (map (section_state b) es)) some s are (elim (in_last None (filter (λ _. true) some) s (sym is)) [
    | inl none ↦ absurd (cc)
    | inr has ↦ (in_kept (λ _. true) some s has).0
  ]))

  pub target_named : (place : Option ℕ) → AreNumbered next es → AreSome (filter named (map (section_state b) es)) some → Some s ≡ last_or None (passing (λ _. true) some)
      → place ≡ position (has_number s.number) es → IfSome place (λ at. option_map named (slice_get (map (section_state b) es) at) ≡ Some true)
  target_named place once are is placed =
      let found = in_names are is in
      let h = held b es s found.0 in
      let there : option_map named (slice_get (map (section_state b) es) (length h.before)) ≡ Some true = ap (option_map named) (held_there b es s h) ∙ ap Some found.1 in
      subst (λ (o : Option ℕ). IfSome o (λ at. option_map named (slice_get (map (section_state b) es) at) ≡ Some true)) (sym (placed ∙ held_place b next es s h once)) there

-- the last section that passes a test, as the table has it
record IsLast (b : List ℕ) (test : SectionState → Bool) (es : List (SectionEntry Section)) (given : Option SectionState) : Type 0 where
  before : List (SectionEntry Section)
  found : SectionEntry Section
  behind : List (SectionEntry Section)
  is : es ≡ before ++ found ∷ behind
  passes : test (section_state b found) ≡ true
  none : list_any test (map (section_state b) behind) ≡ false
  last : given ≡ Some (section_state b found)

last_later : (b : List ℕ) (test : SectionState → Bool) (e : SectionEntry Section) (es : List (SectionEntry Section)) (o : Option SectionState) → IsLast b test es o → IsLast b test (e ∷ es) o
last_later b test e es o l =
    record { before = e ∷ l.before; found = l.found; behind = l.behind; is = ap (λ xs. e ∷ xs) l.is; passes = l.passes; none = l.none; last = l.last }

-- None passes, or the last one does.
last_of : (b : List ℕ) (test : SectionState → Bool) (before : Option SectionState) (es : List (SectionEntry Section))
    → ((last_or before (filter test (map (section_state b) es)) ≡ before) × (list_any test (map (section_state b) es) ≡ false))
    ⊎ IsLast b test es (last_or before (filter test (map (section_state b) es)))
last_of b test before [] = inl (refl, refl)
last_of b test before (e ∷ es) = go (test (section_state b e)) refl (λ o. last_of b test o es)
  where
    go : (p : Bool) → test (section_state b e) ≡ p
        → ((o : Option SectionState) → ((last_or o (filter test (map (section_state b) es)) ≡ o) × (list_any test (map (section_state b) es) ≡ false))
        ⊎ IsLast b test es (last_or o (filter test (map (section_state b) es))))
        → ((last_or before (filter test (map (section_state b) (e ∷ es))) ≡ before) × (list_any test (map (section_state b) (e ∷ es)) ≡ false))
        ⊎ IsLast b test (e ∷ es) (last_or before (filter test (map (section_state b) (e ∷ es))))
    go false fails later = rw fails (elim (later before) [ inl none ↦ inl none | inr l ↦ inr (last_later b test e es _ l) ])
    go true passes later = rw passes (elim (later (Some (section_state b e))) [
      | inl none ↦ inr (record { before = []; found = e; behind = es; is = refl; passes = passes; none = none.1; last = none.0 })
      | inr l ↦ inr (last_later b test e es _ l)
    ])

-- none is last where there is none
none_last : {A : Type 0} (xs : List A) → last_or None xs ≡ None → xs ≡ []
none_last [] none = refl
none_last (x ∷ xs) none = absurd (last_of_some x xs none)

module _ (name : List ℕ) (subsection : Option (List ℕ)) (keeps : Meta → Bool) where
  abbrev target : SectionState → Bool
  target = is_target name subsection keeps

  -- what a walk over the sections of the names finds
  abbrev last_walked : List SectionState → Option SectionState
  last_walked sections = last_or None (passing keeps (filter (λ s. is_named name subsection (listing s)) sections))

  targets : (o : Option SectionState) (sections : List SectionState) → o ≡ last_walked sections → o ≡ last_or None (filter target sections)
  targets o sections is = is ∙ ap (last_or None) (filter_both (λ (s : SectionState). is_named name subsection (listing s)) (λ (s : SectionState). keeps s.meta) sections)

  -- Where it finds none, none passes.
  pub target_missing : (sections : List SectionState) → None ≡ last_walked sections → list_any target sections ≡ false
  target_missing sections none = any_of_none target sections (none_last (filter target sections) (sym (targets None sections none)))

  -- What it finds stands at the place of its number, and none that passes behind it.
  pub target_placed : (b : List ℕ) (next : ℕ) (es : List (SectionEntry Section)) (s : SectionState) (place : Option ℕ) → AreNumbered next es → Some s ≡ last_walked (map (section_state b) es)
      → place ≡ position (has_number s.number) es → IsLastPlace target (map (section_state b) es) place
  target_placed b next es s place once is placed = elim (last_of b target None es) [
    | inl none ↦ absurd (let e = targets (Some s) (map (section_state b) es) is ∙ none.0 in cc)
    | inr l ↦
        let same : s ≡ section_state b l.found = (let e = targets (Some s) (map (section_state b) es) is ∙ l.last in cc) in
        let at : position (has_number s.number) es ≡ Some (length l.before) =
        ap (λ (t : SectionState). position (has_number t.number) es) same ∙ ap (position (has_number l.found.number)) l.is
        ∙ place_of_number next l.before l.found l.behind (subst (AreNumbered next) l.is once) in
        subst (IsLastPlace target (map (section_state b) es)) (sym (placed ∙ at)) (record {
          before = map (section_state b) l.before;
          found = section_state b l.found;
          behind = map (section_state b) l.behind;
          is = ap (map (section_state b)) l.is ∙ map-append (section_state b) l.before (l.found ∷ l.behind);
          place = length-map l.before (section_state b);
          passes = l.passes;
          none = l.none;
        })
  ]
