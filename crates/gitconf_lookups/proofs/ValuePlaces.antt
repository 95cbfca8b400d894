-- Where the entries of a key are, and what entries mean.
use Rattle.std.proofs.Common.{◌≡◌, ℕ, zero, suc, ◌+◌, Bool, true, false, List, [], ◌∷◌, ◌++◌, ◌≤◌, length, map, take, Option, Some, None, Result, Ok, Err, refl, ap, sym, subst, ◌∙◌, arith, append-nil, append_assoc, inl, inr}
use Rattle.std.specs.Prelude.{◌≢◌, ◌⊎◌, ◌==◌, ◌||◌, filter, flat_map, not, IfErr, IfSome, IsErr, OnErr}
use Rattle.std.specs.List.{AllByRecursion, enumerate_from, last_or, list_all, list_any, slice_get}
use Rattle.std.specs.Option.{option_map}
use Rattle.std.specs.declared.vec.Vec.{Vec}
use Rattle.std.proofs.lemmas.Bool.{and_parts, eq-eqb, or_left, or_parts, or_right}
use Rattle.std.proofs.lemmas.Grind.{flat_map-append}
use Rattle.std.proofs.lemmas.List.Folds.{list_all-append}
use Rattle.std.proofs.lemmas.List.Sorted.{list_any-IsPermutation}
use Rattle.gitconf_text.specs.Names.{is_value_name}
use Rattle.gitconf_text.specs.Part as parts
use Rattle.gitconf_text.proofs.ValuesEscaped.{plain-escaped}
use Rattle.gitconf_sources.specs.Key.{Key}
use Rattle.gitconf_sources.specs.Metadata.{Meta}
use Rattle.gitconf_items.specs.declared.items.Item.{Item}
use Rattle.gitconf_items.specs.Items.{item_of, items_of}
use Rattle.gitconf_state.specs.Edit.{is_entry_of, spacing_of}
use Rattle.gitconf_state.specs.Editors.{Editor, InsteadOf, entry_made, written_at}
use Rattle.gitconf_state.specs.Edits.{WriteAt, apply, items_of_numbered, numbered, with_sections}
use Rattle.gitconf_state.specs.Lookup as lookup
use Rattle.gitconf_state.specs.Lookup.{KeyMissing, Listed, Miss, has_name, is_named, listed, listing, miss_of}
use Rattle.gitconf_state.specs.State.{HasItems, HasSectionItems, SectionState, State, is_item}
use Rattle.gitconf_state.proofs.Edits.Items.{spacing_fits}
use Rattle.gitconf_state.proofs.Edits.Keep.{apply_items}
use Rattle.gitconf_body.specs.Places.{IsLastAt}
use Rattle.gitconf_body.proofs.EntryLemmas.{last_shown}
use Rattle.gitconf_body.proofs.Places.{any_shown}
use Rattle.gitconf_lookups.specs.declared.existing.Error.{Error}
use Rattle.gitconf_lookups.specs.declared.existing.Error.TheVariants as errors
use Rattle.gitconf_lookups.specs.Lookups.{miss_at, sections_named}
use Rattle.gitconf_lookups.specs.Misses.{missing}
use Rattle.gitconf_lookups.specs.Picks.{HasSection, IsMissing}
use Rattle.gitconf_lookups.specs.SomeSections.{AreSome, WithSome}
use Rattle.gitconf_lookups.specs.ValuePlaces.{AreAll, AreInOrder, ArePlaces, AreValuePlaces, IsPlace, IsRefused, all_stand, all_value_places, key_places, editor_of_numbered, item_meaning, last_value_place, meaning_at, places_among, refusal_of, value_place, value_places}
use Rattle.gitconf_lookups.specs.Walks.{passing}
use Rattle.gitconf_lookups.proofs.Placing.{IsTaken}
use Rattle.gitconf_lookups.proofs.SectionsKept.{any_listed, none_kept}
use Rattle.gitconf_lookups.proofs.SomeSections.{none_of}

-- places counted from a number on
abbrev pub places_from : (key : List ℕ) → (from : ℕ) → List parts.Item → List ℕ
places_from key from items = map (λ p. p.0) (filter (λ (p : ℕ × parts.Item). is_entry_of key p.1) (enumerate_from from items))

-- and with the number of their section
abbrev pub placed_from : (key : List ℕ) → (number from : ℕ) → List parts.Item → List (ℕ × ℕ)
placed_from key number from items = map (λ place. (number, place)) (places_from key from items)

-- The first item is an entry of the key; it is none.
pub placed_first : (buffer key : List ℕ) (number from : ℕ) (all behind : List Item) (i : Item) → all ≡ i ∷ behind → is_entry_of key (item_of buffer i) ≡ true
    → placed_from key number from (items_of buffer all) ≡ (number, from) ∷ placed_from key number (from + 1) (items_of buffer behind)
placed_first buffer key number from all behind i is passes = ap (λ (is : List Item). placed_from key number from (items_of buffer is)) is ∙ rw passes refl

pub placed_other : (buffer key : List ℕ) (number from : ℕ) (all behind : List Item) (i : Item) → all ≡ i ∷ behind → is_entry_of key (item_of buffer i) ≡ false
    → placed_from key number from (items_of buffer all) ≡ placed_from key number (from + 1) (items_of buffer behind)
placed_other buffer key number from all behind i is other = ap (λ (is : List Item). placed_from key number from (items_of buffer is)) is ∙ rw other refl

-- what is left is told otherwise
pub same_taken : {A : Type 0} (before found left next all : List A) → IsTaken before found left all → left ≡ next → IsTaken before found next all
same_taken before found left next all t is = subst (λ xs. IsTaken before found xs all) is t

-- whatever was returned
pub err_always : {T E P : Type 0} (r : Result T E) → P → OnErr r P
err_always (Ok t) p = tt
err_always (Err e) p = p

-- a refusal, only if there are some
pub refused_all : {Z E : Type 0} (result : Result (Vec (ℕ × ℕ) Z) E) (places : List (ℕ × ℕ)) → IsErr result → places ≢ [] → AreAll result places
refused_all (Ok found) places fault some = absurd (cc)
refused_all (Err refusal) places fault some = some

-- the first section passes
pub first_placed : (key : List ℕ) (keeps : Meta → Bool) (all behind : List SectionState) (s : SectionState)
    → all ≡ s ∷ behind → keeps s.meta ≡ true → all_value_places key keeps all ≡ value_places key s ++ all_value_places key keeps behind
first_placed key keeps all behind s is kept = ap (all_value_places key keeps) is ∙ rw kept refl

-- if none is an entry of the key
none_from : (key : List ℕ) (from : ℕ) (items : List parts.Item) → list_any (is_entry_of key) items ≡ false → places_from key from items ≡ []
none_from key from [] none = refl
none_from key from (i ∷ items) none = go (is_entry_of key i) refl (none_from key (from + 1) items)
  where
    go : (b : Bool) → is_entry_of key i ≡ b → (list_any (is_entry_of key) items ≡ false → places_from key (from + 1) items ≡ []) → places_from key from (i ∷ items) ≡ []
    go true is later = absurd (let h = rw is at none in cc)
    go false is later = rw is (later (rw is at none))

-- the last of them
last_from : (key : List ℕ) (from : ℕ) (o : Option ℕ) (before : List parts.Item) (i : parts.Item) (behind : List parts.Item)
    → is_entry_of key i ≡ true → list_any (is_entry_of key) behind ≡ false → last_or o (places_from key from (before ++ i ∷ behind)) ≡ Some (from + length before)
last_from key from o [] i behind passes none = rw (passes, none_from key (from + 1) behind none) (let e : from ≡ from + 0 = omega arith in ap (λ n. Some n) e)
last_from key from o (j ∷ before) i behind passes none = go (is_entry_of key j) refl (λ p. last_from key (from + 1) p before i behind passes none)
  where
    there : Some (from + 1 + length before) ≡ Some (from + suc (length before))
    there = let e : from + 1 + length before ≡ from + suc (length before) = omega arith in ap (λ n. Some n) e

    go : (b : Bool) → is_entry_of key j ≡ b → ((p : Option ℕ) → last_or p (places_from key (from + 1) (before ++ i ∷ behind)) ≡ Some (from + 1 + length before))
        → last_or o (places_from key from (j ∷ (before ++ i ∷ behind))) ≡ Some (from + suc (length before))
    go true is later = rw is (later (Some from) ∙ there)
    go false is later = rw is (later o ∙ there)

-- what is last of what each is turned to
last_mapped : {A B : Type 0} (f : A → B) (o : Option A) (xs : List A) → last_or (option_map f o) (map f xs) ≡ option_map f (last_or o xs)
last_mapped f o [] = refl
last_mapped f o (x ∷ xs) = last_mapped f (Some x) xs

-- The last place in a section: that of the last item that is an entry of the key, or none.
pub placed_last : (buffer key : List ℕ) (is : List Item) (at : ℕ) (s : SectionState) → s.items ≡ items_of buffer is → IsLastAt (λ i. is_entry_of key (item_of buffer i)) is at
    → last_or None (value_places key s) ≡ Some (s.number, at)
placed_last buffer key is at s shown l =
    let k = last_shown (is_entry_of key) (item_of buffer) is at l in
    last_mapped (λ place. (s.number, place)) None (places_among key s.items)
    ∙ ap (option_map (λ place. (s.number, place)))
    (ap (λ items. last_or None (places_among key items)) (shown ∙ k.is) ∙ last_from key 0 None k.before k.found k.behind k.passes k.none ∙ ap (λ n. Some n) (first (length k.before) ∙ k.place))
  where
    first : (n : ℕ) → 0 + n ≡ n
    first n = omega arith

pub placed_none : (buffer key : List ℕ) (is : List Item) (s : SectionState) → s.items ≡ items_of buffer is → list_any (λ i. is_entry_of key (item_of buffer i)) is ≡ false
    → last_or None (value_places key s) ≡ None
placed_none buffer key is s shown none =
    ap (λ items. last_or None (map (λ place. (s.number, place)) (places_among key items))) shown
    ∙ ap (λ (places : List ℕ). last_or None (map (λ (place : ℕ). (s.number, place)) places))
    (none_from key 0 (items_of buffer is) (any_shown (is_entry_of key) (item_of buffer) is ∙ none))

-- the last of two lists
last_both : {A : Type 0} (o : Option A) (xs ys : List A) → last_or o (xs ++ ys) ≡ last_or (last_or o xs) ys
last_both o [] ys = refl
last_both o (x ∷ xs) ys = last_both (Some x) xs ys

-- if there is one, what comes before doesn't count
last_some : {A : Type 0} (o : Option A) (xs : List A) (x : A) → last_or None xs ≡ Some x → last_or o xs ≡ Some x
last_some o [] x is = absurd (cc)
last_some o (y ∷ xs) x is = is

some_last : {A : Type 0} (x : A) (xs : List A) → last_or (Some x) xs ≢ None
some_last x [] is = absurd (cc)
some_last x (y ∷ xs) is = some_last y xs is

no_last : {A : Type 0} (xs : List A) → last_or None xs ≡ None → xs ≡ []
no_last [] is = refl
no_last (x ∷ xs) is = absurd (some_last x xs is)

passing_both : (keeps : Meta → Bool) (xs ys : List SectionState) → passing keeps (xs ++ ys) ≡ passing keeps xs ++ passing keeps ys
passing_both keeps [] ys = refl
passing_both keeps (x ∷ xs) ys = go (keeps x.meta) refl (passing_both keeps xs ys)
  where
    go : (b : Bool) → keeps x.meta ≡ b → passing keeps (xs ++ ys) ≡ passing keeps xs ++ passing keeps ys
        → passing keeps ((x ∷ xs) ++ ys) ≡ passing keeps (x ∷ xs) ++ passing keeps ys
    go true is later = rw is (ap (λ t. x ∷ t) later)
    go false is later = rw is later

-- the places in one more section, after the others
last_more : (key : List ℕ) (keeps : Meta → Bool) (all before : List SectionState) (s : SectionState) → all ≡ before ++ s ∷ []
    → last_value_place key keeps all ≡ last_or (last_value_place key keeps before) (flat_map (value_places key) (passing keeps (s ∷ [])))
last_more key keeps all before s is =
    ap (last_value_place key keeps) is
    ∙ ap (λ ss. last_or None (flat_map (value_places key) ss)) (passing_both keeps before (s ∷ []))
    ∙ ap (last_or None) (flat_map-append (value_places key) (passing keeps before) (passing keeps (s ∷ [])))
    ∙ last_both None (flat_map (value_places key) (passing keeps before)) (flat_map (value_places key) (passing keeps (s ∷ [])))

places_alone : (key : List ℕ) (keeps : Meta → Bool) (s : SectionState) → keeps s.meta ≡ true → flat_map (value_places key) (passing keeps (s ∷ [])) ≡ value_places key s
places_alone key keeps s kept = rw kept (append-nil (value_places key s))

-- it has an entry of the key; it has none; it doesn't pass
pub place_found : (key : List ℕ) (keeps : Meta → Bool) (all before : List SectionState) (s : SectionState) (place : ℕ × ℕ) → all ≡ before ++ s ∷ [] → keeps s.meta ≡ true
    → last_or None (value_places key s) ≡ Some place → last_value_place key keeps all ≡ Some place
place_found key keeps all before s place is kept found =
    last_more key keeps all before s is ∙ ap (last_or (last_value_place key keeps before)) (places_alone key keeps s kept)
    ∙ last_some (last_value_place key keeps before) (value_places key s) place found

pub place_missing : (key : List ℕ) (keeps : Meta → Bool) (all before : List SectionState) (s : SectionState) → all ≡ before ++ s ∷ [] → keeps s.meta ≡ true
    → last_or None (value_places key s) ≡ None → last_value_place key keeps all ≡ last_value_place key keeps before
place_missing key keeps all before s is kept none =
    last_more key keeps all before s is
    ∙ ap (last_or (last_value_place key keeps before)) (places_alone key keeps s kept ∙ no_last (value_places key s) none)

pub place_skipped : (key : List ℕ) (keeps : Meta → Bool) (all before : List SectionState) (s : SectionState) → all ≡ before ++ s ∷ [] → keeps s.meta ≡ false
    → last_value_place key keeps all ≡ last_value_place key keeps before
place_skipped key keeps all before s is skipped =
    let none : passing keeps (s ∷ []) ≡ [] = rw skipped refl in
    last_more key keeps all before s is ∙ ap (λ ss. last_or (last_value_place key keeps before) (flat_map (value_places key) ss)) none

-- The items of the section of a number are such as a text may have, and stay such where an entry is rewritten.
last_holds : (P : SectionState → Type 0) (test : SectionState → Bool) (o : Option SectionState) (ss : List SectionState) → IfSome o P → AllByRecursion P ss
    → IfSome (last_or o (filter test ss)) P
last_holds P test o [] first all = first
last_holds P test o (s ∷ ss) first all = go (test s) refl (λ p one. last_holds P test p ss one all.1)
  where
    go : (b : Bool) → test s ≡ b → ((p : Option SectionState) → IfSome p P → IfSome (last_or p (filter test ss)) P) → IfSome (last_or o (filter test (s ∷ ss))) P
    go true is later = rw is (later (Some s) all.0)
    go false is later = rw is (later o first)

numbered_are_items : (id : ℕ) (state : State) → HasItems state → list_all is_item (items_of_numbered id state) ≡ true
numbered_are_items id state has = go (numbered id state) (last_holds HasSectionItems (λ s. s.number == id) None state.sections tt has.sections)
  where
    go : (o : Option SectionState) → IfSome o HasSectionItems → list_all is_item (elim o as (λ _. List parts.Item) [ None ↦ [] | Some s ↦ s.items ]) ≡ true
    go None one = refl
    go (Some s) one = one.items

pub rewritten_items : (id place : ℕ) (instead : InsteadOf) (key value : List ℕ) (state : State) → is_value_name key ≡ true → HasItems state
    → HasItems (apply (WriteAt id (editor_of_numbered id state) place instead key value) state)
rewritten_items id place instead key value state named has =
    let fits = spacing_fits (items_of_numbered id state) (numbered_are_items id state has) in
    -- an edit that writes an entry writes no line ending
    let editor : Editor = record { spacing = spacing_of (items_of_numbered id state); line_end = 10 ∷ []; ends = true } in
    apply_items (WriteAt id editor place instead key value) state (record { before = fits.before; behind = fits.behind; line_end = refl }, named) has

-- A place that was found is in a section that is.
one_of_places : (place : ℕ × ℕ) (n : ℕ) (o : Option (ℕ × ℕ)) (ats : List ℕ) → last_or o (map (λ at. (n, at)) ats) ≡ Some place → (o ≡ Some place) ⊎ ((n == place.0) ≡ true)
one_of_places place n o [] is = inl is
one_of_places place n o (at ∷ ats) is = inr (elim (one_of_places place n (Some (n, at)) ats is) [
  | inl last ↦ let e : (n, at) ≡ place = cc in eq-eqb n place.0 (ap (λ p. p.0) e)
  | inr same ↦ same
])

stands_in : (key : List ℕ) (place : ℕ × ℕ) (o : Option (ℕ × ℕ)) (ss : List SectionState) → last_or o (flat_map (value_places key) ss) ≡ Some place
    → (o ≡ Some place) ⊎ (list_any (λ (s : SectionState). s.number == place.0) ss ≡ true)
stands_in key place o [] is = inl is
stands_in key place o (s ∷ ss) is =
    elim (stands_in key place (last_or o (value_places key s)) ss (sym (last_both o (value_places key s) (flat_map (value_places key) ss)) ∙ is)) [
      | inl here ↦ elim (one_of_places place s.number o (places_among key s.items) here) [
        | inl before ↦ inl before
        | inr same ↦ inr (rw same refl)
      ]
      | inr later ↦ inr (or_right (s.number == place.0) (list_any (λ (s : SectionState). s.number == place.0) ss) later)
    ]

-- one of those that are kept is one of all
any_of_kept : {A : Type 0} (test keeps : A → Bool) (xs : List A) → list_any test (filter keeps xs) ≡ true → list_any test xs ≡ true
any_of_kept test keeps [] some = some
any_of_kept {A} test keeps (x ∷ xs) some = go (keeps x) refl (any_of_kept test keeps xs)
  where
    go : (b : Bool) → keeps x ≡ b → (list_any test (filter keeps xs) ≡ true → list_any test xs ≡ true) → list_any test (x ∷ xs) ≡ true
    go false is later = or_right (test x) (list_any test xs) (later (rw is at some))
    go true is later = either (test x) refl (rw is at some)
      where
        either : (t : Bool) → test x ≡ t → (test x || list_any test (filter keeps xs)) ≡ true → list_any test (x ∷ xs) ≡ true
        either true at h = or_left (test x) (list_any test xs) at
        either false at h = or_right (test x) (list_any test xs) (later (rw at at h))

any_of_some : {A : Type 0} (test : A → Bool) (xs some : List A) → AreSome xs some → list_any test some ≡ true → list_any test xs ≡ true
any_of_some test [] some are h = absurd (let no = rw are at h in cc)
any_of_some {A} test (x ∷ xs) some (inr r) h = or_right (test x) (list_any test xs) (any_of_some test xs some r h)
any_of_some {A} test (x ∷ xs) some (inl l) h = go (test x) refl (ap (list_any test) (sym l.1) ∙ h) (any_of_some test xs l.0 l.2)
  where
    go : (t : Bool) → test x ≡ t → (test x || list_any test l.0) ≡ true → (list_any test l.0 ≡ true → list_any test xs ≡ true) → list_any test (x ∷ xs) ≡ true
    go true at h later = or_left (test x) (list_any test xs) at
    go false at h later = or_right (test x) (list_any test xs) (later (rw at at h))

-- whatever the filter returns
pub place_stands : (name : List ℕ) (subsection : Option (List ℕ)) (key : List ℕ) (state : State) (left some : List SectionState) (number at : ℕ)
    → left ≡ sections_named name subsection state → AreSome left some → Some (number, at) ≡ last_value_place key (λ _. true) some
    → list_any (λ (s : SectionState). s.number == number) state.sections ≡ true
place_stands name subsection key state left some number at is are found =
    elim (stands_in key (number, at) None (passing (λ _. true) some) (sym found)) [
      | inl none ↦ absurd (cc)
      | inr here ↦ any_of_kept (λ (s : SectionState). s.number == number) (λ s. is_named name subsection (listing s)) state.sections
          (any_of_some (λ (s : SectionState). s.number == number) (sections_named name subsection state) some (subst (λ ss. AreSome ss some) is are)
          (any_of_kept (λ (s : SectionState). s.number == number) (λ s. true) some here))
    ]

-- Where the sections are missing, no place is found, and the refusal is that of the lookup.
pub none_named : (key : Key) (keeps : Meta → Bool) (state : State) → list_any (is_named key.section key.subsection) (listed state) ≡ false → value_place key keeps state ≡ None
none_named key keeps state none =
    ap (last_value_place key.name keeps) (none_kept (λ s. is_named key.section key.subsection (listing s)) state.sections (sym (any_listed (is_named key.section key.subsection) state.sections) ∙ none))

missing_refusal : (name : List ℕ) (subsection : Option (List ℕ)) (sections : List Listed) (is_name : Bool) → list_any (is_named name subsection) sections ≡ false
    → missing (miss_of name subsection sections) ≡ refusal_of (miss_of name subsection sections) is_name
missing_refusal name subsection sections is_name none = go (list_any (has_name name) sections) refl
  where
    go : (b : Bool) → list_any (has_name name) sections ≡ b → missing (miss_of name subsection sections) ≡ refusal_of (miss_of name subsection sections) is_name
    go false is = rw is refl
    go true is = rw (is, none) refl

pub missing_placed : (key : Key) (keeps : Meta → Bool) (all state : State) (refusal : Error) → list_any (is_named key.section key.subsection) (listed all) ≡ false
    → IsMissing key.section key.subsection state refusal → IsPlace key state (value_place key keeps all) (Err refusal)
missing_placed key keeps all state refusal none m =
    (inr (none_named key keeps all none), m.1 ∙ missing_refusal key.section key.subsection (listed state) (is_value_name key.name) m.0)

not_named : (name : List ℕ) (subsection : Option (List ℕ)) (sections : List Listed) → list_any (has_name name) sections ≡ false → list_any (is_named name subsection) sections ≡ false
not_named name subsection [] none = refl
not_named name subsection (s ∷ sections) none =
    let parts = or_parts (has_name name s) (list_any (has_name name) sections) none in rw parts.0 (not_named name subsection sections parts.1)

pub only_key_missing : (name : List ℕ) (subsection : Option (List ℕ)) (sections : List Listed) → list_any (is_named name subsection) sections ≡ true → miss_of name subsection sections ≡ KeyMissing
only_key_missing name subsection sections some = go (list_any (has_name name) sections) refl
  where
    go : (b : Bool) → list_any (has_name name) sections ≡ b → miss_of name subsection sections ≡ KeyMissing
    go false is = absurd (let no = sym (not_named name subsection sections is) ∙ some in cc)
    go true is = rw (is, some) refl

-- Where they are, it is that of a name that is none, or of an entry that is missing.
pub invalid_refused : (key : Key) (state : State) (nothing : Type 0) (number : ℕ) → HasSection key.section key.subsection state → is_value_name key.name ≡ false → number ≡ 6
    → IsRefused key state nothing (errors.ValueName number)
invalid_refused key state nothing number has invalid six =
    (inl invalid, ap errors.ValueName six ∙ sym ((λ i. refusal_of (only_key_missing key.section key.subsection (listed state) has i) (invalid i))))

pub invalid_placed : (key : Key) (state : State) (place : Option (ℕ × ℕ)) (number : ℕ) → HasSection key.section key.subsection state → is_value_name key.name ≡ false → number ≡ 6
    → IsPlace key state place (Err (errors.ValueName number))
invalid_placed key state place number has invalid six = invalid_refused key state (place ≡ None) number has invalid six

pub absent_refused : (key : Key) (state : State) (nothing : Type 0) → HasSection key.section key.subsection state → is_value_name key.name ≡ true → nothing
    → IsRefused key state nothing errors.KeyMissing
absent_refused key state nothing has valid none =
    (inr none, sym ((λ i. refusal_of (only_key_missing key.section key.subsection (listed state) has i) (valid i))))

pub absent_placed : (key : Key) (state : State) (place : Option (ℕ × ℕ)) → HasSection key.section key.subsection state → is_value_name key.name ≡ true → place ≡ None
    → IsPlace key state place (Err errors.KeyMissing)
absent_placed key state place has valid none = absent_refused key state (place ≡ None) has valid none

-- a refusal of the lookup of the section
pub refused_placed : (key : Key) (keeps : Meta → Bool) (state : State) (result : Result (ℕ × ℕ) Error) → IsErr result → IfErr result (IsMissing key.section key.subsection state)
    → IsPlace key state (value_place key keeps state) result
refused_placed key keeps state (Ok place) fault m = absurd (cc)
refused_placed key keeps state (Err refusal) fault m = missing_placed key keeps state state refusal m.0 m

pub refused_anyway : (key : Key) (state : State) (result : Result (ℕ × ℕ) Error) → IsErr result → IfErr result (IsMissing key.section key.subsection state)
    → WithSome (λ s. IsPlace key state (value_place key (λ _. true) s) result) state
refused_anyway key state (Ok place) fault m = absurd (cc)
refused_anyway key state (Err refusal) fault m = ([], none_of state.sections, missing_placed key (λ _. true) (with_sections [] state) state refusal refl m)

-- The same of several places: those of sections that are missing are none.
none_placed : (key : Key) (keeps : Meta → Bool) (state : State) → list_any (is_named key.section key.subsection) (listed state) ≡ false → key_places key keeps state ≡ []
none_placed key keeps state none =
    ap (all_value_places key.name keeps) (none_kept (λ s. is_named key.section key.subsection (listing s)) state.sections (sym (any_listed (is_named key.section key.subsection) state.sections) ∙ none))

-- A refusal of a lookup other than out of memory.
no_memory : (miss : Miss) (is_name : Bool) → errors.Memory ≢ refusal_of miss is_name
no_memory lookup.SectionMissing is_name is = absurd (cc)
no_memory lookup.SubSectionMissing is_name is = absurd (cc)
no_memory lookup.KeyMissing true is = absurd (cc)
no_memory lookup.KeyMissing false is = absurd (cc)

pub refused_places : (Z : Type 0) (key : Key) (state : State) (places : List (ℕ × ℕ)) (refusal : Error) → IsRefused key state (places ≡ []) refusal
    → ArePlaces {Z = Z} key state places (Err refusal)
refused_places Z key state places errors.SectionMissing r = r
refused_places Z key state places errors.SubSectionMissing r = r
refused_places Z key state places errors.KeyMissing r = r
refused_places Z key state places (errors.ValueName number) r = r
refused_places Z key state places errors.Memory r = absurd (no_memory (miss_at key state) (is_value_name key.name) r.1)

-- a refusal of the lookup of the sections
pub missing_places : {Z : Type 0} (key : Key) (keeps : Meta → Bool) (state : State) (result : Result (Vec (ℕ × ℕ) Z) Error) → IsErr result
    → IfErr result (IsMissing key.section key.subsection state) → AreValuePlaces key keeps state result
missing_places {Z} key keeps state (Ok places) fault m = absurd (cc)
missing_places {Z} key keeps state (Err refusal) fault m =
    refused_places Z key state (key_places key keeps state) refusal
    (inr (none_placed key keeps state m.0), m.1 ∙ missing_refusal key.section key.subsection (listed state) (is_value_name key.name) m.0)

pub missing_anyway : {Z : Type 0} (key : Key) (state : State) (result : Result (Vec (ℕ × ℕ) Z) Error) → IsErr result
    → IfErr result (IsMissing key.section key.subsection state) → WithSome (λ s. ArePlaces key state (key_places key (λ _. true) s) result) state
missing_anyway {Z} key state (Ok places) fault m = absurd (cc)
missing_anyway {Z} key state (Err refusal) fault m = (
  [],
  none_of state.sections,
  refused_places Z key state [] refusal (inr refl, m.1 ∙ missing_refusal key.section key.subsection (listed state) (is_value_name key.name) m.0),
)

-- No memory was there for them.
pub wanting_places : {Z : Type 0} (key : Key) (state : State) (places : List (ℕ × ℕ)) (result : Result (Vec (ℕ × ℕ) Z) Error) → IsErr result
    → IfErr result (λ e. e ≡ errors.Memory) → is_value_name key.name ≡ true → places ≢ [] → ArePlaces key state places result
wanting_places key state places (Ok found) fault is named some = absurd (cc)
wanting_places {Z} key state places (Err refusal) fault is named some = subst (λ e. ArePlaces {Z = Z} key state places (Err e)) (sym is) (named, some)

-- a list of no length
pub none_long : {A : Type 0} (xs : List A) → length xs ≡ 0 → xs ≡ []
none_long [] none = refl
none_long (x ∷ xs) none = absurd (omega (arith, none))

-- The sections of places are: of those that are found in some of them, in whatever order.
all_filtered : {A : Type 0} (p test : A → Bool) (xs : List A) → list_all p xs ≡ true → list_all p (filter test xs) ≡ true
all_filtered p test [] all = refl
all_filtered {A} p test (x ∷ xs) all = go (test x) refl (all_filtered p test xs)
  where
    go : (b : Bool) → test x ≡ b → (list_all p xs ≡ true → list_all p (filter test xs) ≡ true) → list_all p (filter test (x ∷ xs)) ≡ true
    go true is later = let parts = and_parts (p x) (list_all p xs) all in rw (is, parts.0) (later parts.1)
    go false is later = let parts = and_parts (p x) (list_all p xs) all in rw is (later parts.1)

all_of_some : {A : Type 0} (p : A → Bool) (xs some : List A) → AreSome xs some → list_all p xs ≡ true → list_all p some ≡ true
all_of_some p [] some are all = rw are refl
all_of_some p (x ∷ xs) some (inr r) all = all_of_some p xs some r (and_parts (p x) (list_all p xs) all).1
all_of_some p (x ∷ xs) some (inl l) all =
    let parts = and_parts (p x) (list_all p xs) all in
    ap (list_all p) l.1 ∙ rw parts.0 (all_of_some p xs l.0 l.2 parts.1)

number_stands : (before behind : List SectionState) → list_all (λ (s : SectionState). list_any (λ (t : SectionState). t.number == s.number) (before ++ behind)) behind ≡ true
number_stands before [] = refl
number_stands before (s ∷ behind) =
    rw (here before) (subst (λ ss. list_all (λ (s : SectionState). list_any (λ (t : SectionState). t.number == s.number) ss) behind ≡ true)
    (append_assoc before (s ∷ []) behind) (number_stands (before ++ s ∷ []) behind))
  where
    here : (bs : List SectionState) → list_any (λ (t : SectionState). t.number == s.number) (bs ++ s ∷ behind) ≡ true
    here [] = rw (eq-eqb s.number s.number refl) refl
    here (b ∷ bs) = or_right (b.number == s.number) (list_any (λ (t : SectionState). t.number == s.number) (bs ++ s ∷ behind)) (here bs)

all_at_numbers : (test : ℕ → Bool) (n : ℕ) (ats : List ℕ) → test n ≡ true → list_all (λ (p : ℕ × ℕ). test p.0) (map (λ at. (n, at)) ats) ≡ true
all_at_numbers test n [] is = refl
all_at_numbers test n (at ∷ ats) is = rw is (all_at_numbers test n ats is)

all_placed : (test : ℕ → Bool) (key : List ℕ) (ss : List SectionState) → list_all (λ (s : SectionState). test s.number) ss ≡ true
    → list_all (λ (p : ℕ × ℕ). test p.0) (flat_map (value_places key) ss) ≡ true
all_placed test key [] all = refl
all_placed test key (s ∷ ss) all =
    let parts = and_parts (test s.number) (list_all (λ (s : SectionState). test s.number) ss) all in
    list_all-append (λ (p : ℕ × ℕ). test p.0) (value_places key s) (flat_map (value_places key) ss)
    ∙ rw (all_at_numbers test s.number (places_among key s.items) parts.0) (all_placed test key ss parts.1)

not_any : {A : Type 0} (p : A → Bool) (xs : List A) → list_all p xs ≡ not (list_any (λ x. not (p x)) xs)
not_any p [] = refl
not_any {A} p (x ∷ xs) = go (p x) refl (not_any p xs)
  where
    go : (b : Bool) → p x ≡ b → list_all p xs ≡ not (list_any (λ x. not (p x)) xs) → list_all p (x ∷ xs) ≡ not (list_any (λ x. not (p x)) (x ∷ xs))
    go true is later = rw is later
    go false is later = rw is refl

pub all_places_stand : (name : List ℕ) (subsection : Option (List ℕ)) (key : List ℕ) (state : State) (left some : List SectionState) (found ordered : List (ℕ × ℕ))
    → left ≡ sections_named name subsection state → AreSome left some → found ≡ all_value_places key (λ _. true) some → AreInOrder found ordered
    → all_stand ordered state ≡ true
all_places_stand name subsection key state left some found ordered is are told order =
    not_any stands ordered ∙ ap not (sym (list_any-IsPermutation (λ p. not (stands p)) found ordered order.same)) ∙ sym (not_any stands found)
    ∙ ap (list_all stands) told ∙ all_placed there key (passing (λ _. true) some) (all_filtered (λ (s : SectionState). there s.number) (λ s. true) some
    (all_of_some (λ (s : SectionState). there s.number) (sections_named name subsection state) some (subst (λ ss. AreSome ss some) is are)
    (all_filtered (λ (s : SectionState). there s.number) (λ s. is_named name subsection (listing s)) state.sections (number_stands [] state.sections))))
  where
    there : ℕ → Bool
    there n = list_any (λ (s : SectionState). s.number == n) state.sections

    stands : ℕ × ℕ → Bool
    stands p = there p.0

-- What was written at a place is what is read there.
there : (items : List parts.Item) (place : ℕ) (i : parts.Item) (behind : List parts.Item) → place ≤ length items → slice_get (take place items ++ i ∷ behind) place ≡ Some i
there items zero i behind within = refl
there [] (suc place) i behind within = absurd (omega (arith, within))
there (j ∷ items) (suc place) i behind within = there items place i behind (omega (arith, within))

pub written_is_read : (editor : Editor) (place : ℕ) (instead : InsteadOf) (key value : List ℕ) (items : List parts.Item) → place ≤ length items
    → meaning_at place (written_at editor place instead key value items) ≡ Some value
written_is_read editor place instead key value items within =
    go (slice_get (written_at editor place instead key value items) place) (there items place (entry_made editor.spacing key (Some value)) _ within)
  where
    go : (o : Option parts.Item) → o ≡ Some (entry_made editor.spacing key (Some value))
        → elim o as (λ _. Option (List ℕ)) [ None ↦ None | Some i ↦ item_meaning i ] ≡ Some value
    go None is = absurd (cc)
    go (Some i) is =
        let h : i ≡ entry_made editor.spacing key (Some value) = cc in
        ap item_meaning h ∙ ap (λ (text : List ℕ). Some text) (plain-escaped value)
