-- The places and words of a table under its edits, and what its walks find.
use Rattle.std.proofs.Common.{◌≡◌, ◌≢◌, ℕ, zero, suc, ◌+◌, ◌≤◌, ◌<◌, ◌==◌, ◌⊎◌, inl, inr, Bool, true, false, List, [], ◌∷◌, ◌++◌, length, take, drop, set, map, filter, remove, position, slice_index, Option, Some, None, refl, ap, sym, subst, ◌∙◌, arith, add-zero, eqb-true}
use Rattle.std.specs.Prelude.{◌&&◌, slice_get}
use Rattle.std.specs.Option.{option_eq, option_map}
use Rattle.std.specs.List.{filter_map, list_any, AllByRecursion, AllZip}
use Rattle.std.specs.Str.{bytes_eq}
use Rattle.std.proofs.lemmas.Bool.{cases_eq, cases_lt, eq-eqb}
use Rattle.std.proofs.lemmas.List.{append-nil, map-append, length-map, length-append, take-map, drop-map, get_or-set_same, get_or-set_other, get_or_append_left, get_or_default, get_or-take}
use Rattle.std.proofs.lemmas.List.Quantifiers.{position-Some}
use Rattle.std.proofs.Math.ListN.{get_or-map}
use Rattle.std.proofs.Math.Seq.{get_or-append_seam}
use Rattle.std.proofs.lemmas.List.Elements.{filter-append, filter_map-append}
use Rattle.std.proofs.lemmas.Option.{slice_get-map}
use Rattle.std.proofs.lemmas.Slice.Eq.{bytes_eq-Decides}
use Rattle.gitconf_text.specs.Bytes.{fold}
use Rattle.gitconf_items.specs.declared.items.Item.{Item}
use Rattle.gitconf_sections.specs.declared.row.Row.{Row}
use Rattle.gitconf_sections.specs.Section.{Section}
use Rattle.gitconf_text.specs.Sections.{SectionEntry, AreNumbered, changed_at, entry_of, has_name, has_number, is_named, no_number, numbered_from, IsEntryClone}
use Rattle.gitconf_sections.specs.Rows.{entries_at, entries_of, entry_of_row}
use Rattle.gitconf_sections.specs.Word.{full_state, full_word, name_state, name_word, nothing_behind, whole_state, with_bytes, word_of}
use Rattle.gitconf_sections.specs.Words.{places_in, places_of}
use Rattle.gitconf_sections.specs.Tables.{IsTable, AreApart, ArePlaced, ArePlacedTo, numbers_of, word_of_name, word_of_names}
use Rattle.gitconf_sections.proofs.SectionLemmas.{all_last_numbered, changed_numbered, fold_again, none_has, not_placed, number_at-place, push_numbered}

-- equal names have equal words, from any seed
module _ (seed : ℕ) where
  same_states : (a b : List ℕ) → fold a ≡ fold b → name_state seed b ≡ name_state seed a
  unfolding name_state
  same_states a b e = ap (λ bytes. whole_state (with_bytes (nothing_behind seed) bytes)) (sym e)

  pub same_names : (a b : List ℕ) → bytes_eq (fold a) (fold b) ≡ true → name_state seed b ≡ name_state seed a
  same_names a b h = same_states a b ((bytes_eq-Decides (fold a) (fold b)).0 h)

  folded_state : (name : List ℕ) → name_state seed (fold name) ≡ name_state seed name
  folded_state name = same_states name (fold name) (sym (fold_again name))

  pub folded_word : (name : List ℕ) → name_word seed (fold name) ≡ name_word seed name
  folded_word name = ap word_of (folded_state name)

  pub folded_full : (name : List ℕ) (s : Option (List ℕ)) → full_word seed (fold name) s ≡ full_word seed name s
  folded_full name s = ap (λ state. word_of (full_state state s)) (folded_state name)

same_subsections : (s t : Option (List ℕ)) → option_eq bytes_eq s t ≡ true → s ≡ t
same_subsections None None h = refl
same_subsections None (Some t) h = absurd (cc)
same_subsections (Some s) None h = absurd (cc)
same_subsections (Some s) (Some t) h = ap (λ (b : List ℕ). Some b) ((bytes_eq-Decides s t).0 h)

both : (a b : Bool) → a && b ≡ true → (a ≡ true) × (b ≡ true)
both true true h = (refl, refl)
both true false h = absurd (cc)
both false b h = absurd (cc)

module _ {T : Type 0} where
  pub words_named : (seed : ℕ) (name : List ℕ) (e : SectionEntry T) → has_name name e ≡ true → word_of_name seed e ≡ name_word seed name
  words_named seed name e h = ap word_of (same_names seed name e.name h)

  pub words_full : (seed : ℕ) (name : List ℕ) (s : Option (List ℕ)) (e : SectionEntry T) → is_named name s e ≡ true → word_of_names seed e ≡ full_word seed name s
  words_full seed name s e h =
      let parts = both (has_name name e) (option_eq bytes_eq e.subsection s) h in
      λ j. word_of (full_state (same_names seed name e.name parts.0 j) (same_subsections e.subsection s parts.1 j))

  -- a filter that only passes sections of a word passes at the places of the word what it passes of all
  found_in : (p : SectionEntry T → Bool) (word_of : SectionEntry T → ℕ) (w : ℕ) → ((e : SectionEntry T) → p e ≡ true → word_of e ≡ w)
      → (h : ℕ → Option (SectionEntry T)) (ws : List ℕ) (xs : List (SectionEntry T)) (a : ℕ)
      → ((k : ℕ) → h (a + k) ≡ slice_get xs k) → ((k : ℕ) → slice_index ws (a + k) ≡ slice_index (map word_of xs) k)
      → filter p (filter_map h (places_in ws w a (length xs))) ≡ filter p xs
  found_in p word_of w words h ws [] a shows same = refl
  found_in p word_of w words h ws (x ∷ xs) a shows same =
      go (slice_index ws a == w) refl (p x) refl
      (found_in p word_of w words h ws xs (a + 1)
      (λ k. let sum : a + suc k ≡ a + 1 + k = omega arith in subst (λ m. h m ≡ slice_get xs k) sum (shows (suc k)))
      (λ k. let sum : a + suc k ≡ a + 1 + k = omega arith in subst (λ m. slice_index ws m ≡ slice_index (map word_of xs) k) sum (same (suc k))))
    where
      there : h a ≡ Some x
      there = subst (λ m. h m ≡ Some x) (add-zero a) (shows 0)

      its_word : slice_index ws a ≡ word_of x
      its_word = subst (λ m. slice_index ws m ≡ word_of x) (add-zero a) (same 0)

      go : (b : Bool) → (slice_index ws a == w) ≡ b → (c : Bool) → p x ≡ c → filter p (filter_map h (places_in ws w (a + 1) (length xs))) ≡ filter p xs
          → filter p (filter_map h (places_in ws w a (length (x ∷ xs)))) ≡ filter p (x ∷ xs)
      go true e true passes later = rw (e, there, passes) (ap (λ r. x ∷ r) later)
      go true e false passes later = rw (e, there, passes) later
      go false e true passes later = absurd (let eq : (slice_index ws a == w) ≡ true = eq-eqb _ _ (its_word ∙ words x passes) in let differ : true ≡ false = sym eq ∙ e in cc)
      go false e false passes later = rw (e, passes) later

-- among the rows
pub found : (p : SectionEntry Section → Bool) (word_of : SectionEntry Section → ℕ) (w : ℕ) → ((e : SectionEntry Section) → p e ≡ true → word_of e ≡ w)
    → (letters : List ℕ) (list : List Item) (rows : List Row) (ws : List ℕ) → ws ≡ map word_of (entries_of letters list rows) → filter p (entries_at letters list rows (places_of w ws)) ≡ filter p (entries_of letters list rows)
found p word_of w words letters list rows ws same =
    let count : length ws ≡ length (entries_of letters list rows) = ap length same ∙ length-map (entries_of letters list rows) word_of in
    rw count (found_in p word_of w words (λ at. option_map (entry_of_row letters list) (slice_get rows at)) ws (entries_of letters list rows) 0
    (λ k. let sum : 0 + k ≡ k = omega arith in rw sum (sym (slice_get-map (entry_of_row letters list) rows k)))
    (λ k. let sum : 0 + k ≡ k = omega arith in rw sum (ap (λ l. slice_index l k) same)))

pub map_out : {A B : Type 0} (f : A → B) (xs : List A) (i : ℕ) → map f (remove xs i) ≡ remove (map f xs) i
map_out f xs i = map-append f (take i xs) (drop (suc i) xs) ∙ (λ j. sym (take-map f i xs) j ++ sym (drop-map f (suc i) xs) j)

module _ {T : Type 0} where
  -- numbers are below the next one, and apart
  pub below_next : (next : ℕ) (es : List (SectionEntry T)) → AreNumbered next es → (k : ℕ) → k < length (numbers_of es) → slice_index (numbers_of es) k < next
  below_next next [] h k within = absurd (omega (arith, within))
  below_next next (e ∷ es) h zero within = h.0
  below_next next (e ∷ es) h (suc k) within = below_next next es h.2 k (omega (arith, within))

  other_numbers : (n : ℕ) (es : List (SectionEntry T)) → AllByRecursion (λ f. (f.number == n) ≡ false) es → (k : ℕ) → k < length (numbers_of es) → slice_index (numbers_of es) k ≢ n
  other_numbers n [] h k within e = omega (arith, within)
  other_numbers n (f ∷ es) h zero within e = let eq : (f.number == n) ≡ true = eq-eqb _ _ e in let differ : true ≡ false = sym eq ∙ h.0 in absurd (cc)
  other_numbers n (f ∷ es) h (suc k) within e = other_numbers n es h.1 k (omega (arith, within)) e

  pub numbered_apart : (next : ℕ) (es : List (SectionEntry T)) → AreNumbered next es → AreApart (numbers_of es)
  numbered_apart next [] h i k order within e = omega (arith, within)
  numbered_apart next (e ∷ es) h zero zero order within same = omega (arith, order)
  numbered_apart next (e ∷ es) h zero (suc k) order within same = other_numbers e.number es h.1 k (omega (arith, within)) (sym same)
  numbered_apart next (e ∷ es) h (suc i) zero order within same = omega (arith, order)
  numbered_apart next (e ∷ es) h (suc i) (suc k) order within same = numbered_apart next es h.2 i k (omega (arith, order)) (omega (arith, within)) same

-- one place more is written down
pub placed_more : (numbers places : List ℕ) (at n : ℕ) → n ≡ slice_index numbers at → at < length numbers → n < length places → AreApart numbers → ArePlacedTo at numbers places → ArePlacedTo (at + 1) numbers (set places n at)
placed_more numbers places at n is within inside apart h k below = go (cases_eq k at)
  where
    go : (k ≡ at) ⊎ (k ≢ at) → slice_index (set places n at) (slice_index numbers k) ≡ k
    go (inl same) = rw (same, ← is, get_or-set_same places n at 0 inside) refl
    go (inr other) =
        rw (get_or-set_other places n (slice_index numbers k) at 0 (λ e. apart k at (omega (arith, below, other)) within (e ∙ is)))
        (h k (omega (arith, below, other)))

-- the places before others that are put after
pub placed_before : (numbers more places new : List ℕ) → ((k : ℕ) → k < length numbers → slice_index numbers k < length places)
    → take (length places) new ≡ places → ArePlaced numbers places → ArePlacedTo (length numbers) (numbers ++ more) new
placed_before numbers more places new inside kept placed k below =
    let stays : slice_index new (slice_index numbers k) ≡ slice_index places (slice_index numbers k) =
    sym (get_or-take (length places) new (slice_index numbers k) 0 (inside k below)) ∙ ap (λ ps. slice_index ps (slice_index numbers k)) kept in
    ap (slice_index new) (get_or_append_left numbers more 0 k below) ∙ stays ∙ placed k below

module _ {T : Type 0} {seed : ℕ} where
  -- one section more at the end
  pub table_push : (next : ℕ) (es : List (SectionEntry T)) (places names full : List ℕ) (e : SectionEntry T) → e.number ≡ next → next < no_number
      → IsTable seed next es places names full → IsTable seed (next + 1) (es ++ e ∷ []) (places ++ length es ∷ []) (names ++ word_of_name seed e ∷ []) (full ++ word_of_names seed e ∷ [])
  table_push next es places names full e is room h = record {
    numbered = record { once = push_numbered next es e is h.numbered.once; within = omega (arith, room) };
    counted = rw length-append (omega (arith, h.counted));
    placed = λ k below. go k below (cases_lt k (length (numbers_of es)));
    names = sym (map-append (word_of_name seed) es (e ∷ []) ∙ ap (λ l. l ++ word_of_name seed e ∷ []) (sym h.names));
    full = sym (map-append (word_of_names seed) es (e ∷ []) ∙ ap (λ l. l ++ word_of_names seed e ∷ []) (sym h.full));
  }
    where
      numbers : numbers_of (es ++ e ∷ []) ≡ numbers_of es ++ e.number ∷ []
      numbers = map-append (λ (e : SectionEntry T). e.number) es (e ∷ [])

      go : (k : ℕ) → k < length (numbers_of (es ++ e ∷ [])) → (k < length (numbers_of es)) ⊎ (length (numbers_of es) ≤ k) → slice_index (places ++ length es ∷ []) (slice_index (numbers_of (es ++ e ∷ [])) k) ≡ k
      go k below (inl old) =
          let number : slice_index (numbers_of es) k < length places = omega (arith, below_next next es h.numbered.once k old, h.counted) in
          rw (numbers, get_or_append_left (numbers_of es) (e.number ∷ []) 0 k old, get_or_append_left places (length es ∷ []) 0 (slice_index (numbers_of es) k) number) (h.placed k old)
      go k below (inr last) =
          let count : length (numbers_of es) ≡ length es = length-map es (λ (e : SectionEntry T). e.number) in
          let all : length (numbers_of (es ++ e ∷ [])) ≡ length (numbers_of es) + 1 = ap length numbers ∙ rw length-append refl in
          let same : k ≡ length (numbers_of es) = omega (arith, below, last, all) in
          let number : e.number ≡ length places = is ∙ sym h.counted in
          rw (same, numbers, get_or-append_seam (numbers_of es) e.number [] 0, number, get_or-append_seam places (length es) [] 0) (sym count)

  -- one section fewer
  pub table_out : (next at : ℕ) (es : List (SectionEntry T)) (places more names full : List ℕ)
      → IsTable seed next es places names full → AreNumbered next (remove es at) → length more ≡ next → ArePlaced (numbers_of (remove es at)) more
      → IsTable seed next (remove es at) more (remove names at) (remove full at)
  table_out next at es places more names full h once count placed = record {
    numbered = record { once = once; within = h.numbered.within };
    counted = count;
    placed = placed;
    names = sym (map_out (word_of_name seed) es at ∙ ap (λ l. remove l at) (sym h.names));
    full = sym (map_out (word_of_names seed) es at ∙ ap (λ l. remove l at) (sym h.full));
  }

module _ {T : Type 0} where
  -- a change of one section, as f shows it
  pub map_changed : (f : SectionEntry T → ℕ) (g : SectionEntry T → SectionEntry T) (w : ℕ) → ((e : SectionEntry T) → f (g e) ≡ w) → (es : List (SectionEntry T)) (i : ℕ) → map f (changed_at g es i) ≡ set (map f es) i w
  map_changed f g w e [] i = refl
  map_changed f g w e (x ∷ es) zero = ap (λ y. y ∷ map f es) (e x)
  map_changed f g w e (x ∷ es) (suc i) = ap (λ ys. f x ∷ ys) (map_changed f g w e es i)

  pub map_unchanged : (f : SectionEntry T → ℕ) (g : SectionEntry T → SectionEntry T) → ((e : SectionEntry T) → f (g e) ≡ f e) → (es : List (SectionEntry T)) (i : ℕ) → map f (changed_at g es i) ≡ map f es
  map_unchanged f g e [] i = refl
  map_unchanged f g e (x ∷ es) zero = ap (λ y. y ∷ map f es) (e x)
  map_unchanged f g e (x ∷ es) (suc i) = ap (λ ys. f x ∷ ys) (map_unchanged f g e es i)

module _ {T : Type 0} {seed : ℕ} where
  -- the same numbers and words of other sections
  pub table_same : (next : ℕ) (es fs : List (SectionEntry T)) (places names full names2 full2 : List ℕ) → IsTable seed next es places names full
      → AreNumbered next fs → numbers_of fs ≡ numbers_of es → names2 ≡ map (word_of_name seed) fs → full2 ≡ map (word_of_names seed) fs
      → IsTable seed next fs places names2 full2
  table_same next es fs places names full names2 full2 h once numbers same same_full = record {
    numbered = record { once = once; within = h.numbered.within };
    counted = h.counted;
    placed = rw numbers h.placed;
    names = same;
    full = same_full;
  }

  -- another content of one section
  pub table_edited : (next at : ℕ) (es es2 : List (SectionEntry T)) (places names full : List ℕ) (w : T) → es2 ≡ changed_at (λ e. record e { section = w }) es at
      → IsTable seed next es places names full → IsTable seed next es2 places names full
  table_edited next at es es2 places names full w is h =
      let f : SectionEntry T → SectionEntry T = λ e. record e { section = w } in
      rw is (table_same next es (changed_at f es at) places names full names full h
      (changed_numbered f (λ e. refl) next es at h.numbered.once)
      (map_unchanged (λ e. e.number) f (λ e. refl) es at)
      (h.names ∙ sym (map_unchanged (word_of_name seed) f (λ e. refl) es at))
      (h.full ∙ sym (map_unchanged (word_of_names seed) f (λ e. refl) es at)))

module _ {T : Type 0} where
  -- the same sections with words from another seed
  pub worded : (next from to : ℕ) (es : List (SectionEntry T)) (places names full names2 full2 : List ℕ) → IsTable from next es places names full
      → names2 ≡ map (word_of_name to) es → full2 ≡ map (word_of_names to) es → IsTable to next es places names2 full2
  worded next from to es places names full names2 full2 h same same_full = record {
    numbered = h.numbered;
    counted = h.counted;
    placed = h.placed;
    names = same;
    full = same_full;
  }

  pub renumbered : (f : SectionEntry T → ℕ) → ((e : SectionEntry T) (n : ℕ) → f (record e { number = n }) ≡ f e) → (next : ℕ) (es : List (SectionEntry T)) → map f (numbered_from next es) ≡ map f es
  renumbered f same next [] = refl
  renumbered f same next (e ∷ es) = λ j. same e next j ∷ renumbered f same (next + 1) es j

module _ {T : Type 0} {seed : ℕ} where
  -- all sections of another table after them
  pub table_joined : (next other : ℕ) (es fs es2 : List (SectionEntry T)) (places places2 more names full names2 full2 names3 full3 : List ℕ)
      → es2 ≡ es ++ numbered_from next fs → names3 ≡ names ++ names2 → full3 ≡ full ++ full2 → next + length fs ≤ no_number
      → IsTable seed next es places names full → IsTable seed other fs places2 names2 full2
      → length more ≡ next + length fs → ArePlaced (numbers_of es2) more → IsTable seed (next + length fs) es2 more names3 full3
  table_joined next other es fs es2 places places2 more names full names2 full2 names3 full3 e1 e2 e3 room h h2 count placed = record {
    numbered = record { once = rw e1 (all_last_numbered next es fs h.numbered.once); within = room };
    counted = count;
    placed = placed;
    names = e2 ∙ (λ j. h.names j ++ (h2.names ∙ sym (renumbered (word_of_name seed) (λ e n. refl) next fs)) j) ∙ sym (map-append (word_of_name seed) es (numbered_from next fs)) ∙ ap (map (word_of_name seed)) (sym e1);
    full = e3 ∙ (λ j. h.full j ++ (h2.full ∙ sym (renumbered (word_of_names seed) (λ e n. refl) next fs)) j) ∙ sym (map-append (word_of_names seed) es (numbered_from next fs)) ∙ ap (map (word_of_names seed)) (sym e1);
  }

  -- the place under a number that is
  pub place_under : (next id : ℕ) (es : List (SectionEntry T)) (places names full : List ℕ) (at : ℕ) → IsTable seed next es places names full
      → position (has_number id) es ≡ Some at → (at < length es) × (id < length places) × (slice_index places id ≡ at)
  place_under next id [] places names full at h stands = absurd (cc)
  place_under next id (e ∷ es) places names full at h stands =
      let facts = position-Some (has_number id) (e ∷ es) at e stands in
      let count : length (numbers_of (e ∷ es)) ≡ length (e ∷ es) = length-map (e ∷ es) (λ (e : SectionEntry T). e.number) in
      let below : at < length (numbers_of (e ∷ es)) = omega (arith, count, facts.0) in
      let number : slice_index (numbers_of (e ∷ es)) at ≡ id = get_or_default (numbers_of (e ∷ es)) at 0 e.number below ∙ get_or-map (λ (e : SectionEntry T). e.number) (e ∷ es) at e ∙ eqb-true _ _ facts.1 in
      (facts.0, rw (← number) (omega (arith, below_next next (e ∷ es) h.numbered.once at below, h.counted)), rw number at (h.placed at below))

module _ {T : Type 0} where
  other_at : (n : ℕ) (es : List (SectionEntry T)) (at : ℕ) (e : SectionEntry T) → AllByRecursion (λ f. (f.number == n) ≡ false) es → slice_get es at ≡ Some e → (e.number == n) ≡ false
  other_at n [] at e all h = absurd (cc)
  other_at n (f ∷ es) zero e all h = let same : f ≡ e = cc in rw same at all.0
  other_at n (f ∷ es) (suc at) e all h = other_at n es at e all.1 h

  module _ {seed : ℕ} (next id : ℕ) (es : List (SectionEntry T)) (places names full : List ℕ) (h : IsTable seed next es places names full) where
    none_if : ((i : ℕ) → position (has_number id) es ≡ Some i → ⊥) → position (has_number id) es ≡ None
    none_if never = go (position (has_number id) es) refl
      where
        go : (p : Option ℕ) → position (has_number id) es ≡ p → position (has_number id) es ≡ None
        go None e = e
        go (Some i) e = absurd (never i e)

    its : (i : ℕ) → position (has_number id) es ≡ Some i → option_map (λ (e : SectionEntry T). e.number) (slice_get es i) ≡ Some id
    its i stands = number_at-place id (record { entries = es; next = next }) i stands

    pub not_written : length places ≤ id → position (has_number id) es ≡ None
    not_written past = none_if (λ i e. let facts = place_under next id es places names full i h e in omega (arith, past, facts.1))

    pub past_rows : (at : ℕ) → at ≡ slice_index places id → length es ≤ at → position (has_number id) es ≡ None
    past_rows at place past = none_if (λ i e. let facts = place_under next id es places names full i h e in omega (arith, past, place, facts.0, facts.2))

    pub other_there : (at : ℕ) (e : SectionEntry T) → at ≡ slice_index places id → slice_get es at ≡ Some e → (e.number == id) ≡ false → position (has_number id) es ≡ None
    other_there at f place stands other = none_if (λ i e.
        let facts = place_under next id es places names full i h e in
        let same : i ≡ at = sym facts.2 ∙ sym place in
        let there : option_map (λ (e : SectionEntry T). e.number) (Some f) ≡ Some id = rw (same, stands) at (its i e) in
        let number : f.number ≡ id = cc in
        let differ : true ≡ false = sym (eq-eqb _ _ number) ∙ other in
        cc)

    pub stands_there : (at : ℕ) (e : SectionEntry T) → at ≡ slice_index places id → slice_get es at ≡ Some e → (e.number == id) ≡ true → position (has_number id) es ≡ Some at
    stands_there at f place stands this = go (position (has_number id) es) refl
      where
        go : (p : Option ℕ) → position (has_number id) es ≡ p → position (has_number id) es ≡ Some at
        go None e = absurd (
            let all = none_has id es (not_placed _ _ e) in
            let differ : true ≡ false = sym this ∙ other_at id es at f all stands in
            cc)
        go (Some i) e =
            let facts = place_under next id es places names full i h e in
            let same : i ≡ at = sym facts.2 ∙ sym place in
            e ∙ ap (λ (n : ℕ). Some n) same

  -- whether something passes, by the first that a walk shows
  pub any_shown : {B : Type 0} (f : SectionEntry T → B) (p : SectionEntry T → Bool) (es : List (SectionEntry T)) (x : B) (r : List B) → map f (filter p es) ≡ x ∷ r → list_any p es ≡ true
  any_shown f p [] x r h = absurd (cc)
  any_shown f p (e ∷ es) x r h = go (p e) refl (any_shown f p es x r)
    where
      go : (b : Bool) → p e ≡ b → (map f (filter p es) ≡ x ∷ r → list_any p es ≡ true) → list_any p (e ∷ es) ≡ true
      go true t later = rw t refl
      go false t later = rw t (later (rw t at h))

  pub none_shown : {B : Type 0} (f : SectionEntry T → B) (p : SectionEntry T → Bool) (es : List (SectionEntry T)) → map f (filter p es) ≡ [] → list_any p es ≡ false
  none_shown f p [] h = refl
  none_shown f p (e ∷ es) h = go (p e) refl (none_shown f p es)
    where
      go : (b : Bool) → p e ≡ b → (map f (filter p es) ≡ [] → list_any p es ≡ false) → list_any p (e ∷ es) ≡ false
      go true t later = absurd (let g = rw t at h in cc)
      go false t later = rw t (later (rw t at h))

module _ {T : Type 0} {seed : ℕ} where
  -- the changes of a table, as the calls leave its parts
  pub table_pushed : (next : ℕ) (es es2 : List (SectionEntry T)) (places places2 names names2 full full2 : List ℕ) (name : List ℕ) (s : Option (List ℕ)) (section : T)
      → es2 ≡ es ++ entry_of next name s section ∷ [] → places2 ≡ places ++ length es ∷ [] → names2 ≡ names ++ name_word seed name ∷ [] → full2 ≡ full ++ full_word seed name s ∷ []
      → next < no_number → IsTable seed next es places names full → IsTable seed (next + 1) es2 places2 names2 full2
  table_pushed next es es2 places places2 names names2 full full2 name s section e1 e2 e3 e4 room h =
      rw (e1, e2, e3, e4, ← folded_word seed name, ← folded_full seed name s) (table_push next es places names full (entry_of next name s section) refl room h)

  pub table_renamed : (next at : ℕ) (es es2 : List (SectionEntry T)) (places names names2 full full2 : List ℕ) (name : List ℕ) (s : Option (List ℕ))
      → es2 ≡ changed_at (λ e. record e { name = fold name; subsection = s }) es at → names2 ≡ set names at (name_word seed name) → full2 ≡ set full at (full_word seed name s)
      → IsTable seed next es places names full → IsTable seed next es2 places names2 full2
  table_renamed next at es es2 places names names2 full full2 name s e1 e3 e4 h =
      let f : SectionEntry T → SectionEntry T = λ e. record e { name = fold name; subsection = s } in
      rw (e1, e3, e4) (table_same next es (changed_at f es at) places names full _ _ h
      (changed_numbered f (λ e. refl) next es at h.numbered.once)
      (map_unchanged (λ e. e.number) f (λ e. refl) es at)
      (ap (λ l. set l at (name_word seed name)) h.names ∙ sym (map_changed (word_of_name seed) f (name_word seed name) (λ e. folded_word seed name) es at))
      (ap (λ l. set l at (full_word seed name s)) h.full ∙ sym (map_changed (word_of_names seed) f (full_word seed name s) (λ e. folded_full seed name s) es at)))

module _ {T : Type 0} where
  -- what the loop over places needs of the numbers
  pub numbers_within : (next : ℕ) (es : List (SectionEntry T)) (places : List ℕ) → AreNumbered next es → length places ≡ next → (k : ℕ) → k < length (numbers_of es) → slice_index (numbers_of es) k < length places
  numbers_within next es places h count k within = let b = below_next next es h k within in omega (arith, b, count)

-- what no clone changes
pub cloned_map : {T : Type 0} (C : T → T → Type 0) (f : SectionEntry T → ℕ) → ((e d : SectionEntry T) → IsEntryClone C e d → f d ≡ f e)
    → (entries copies : List (SectionEntry T)) → AllZip (IsEntryClone C) entries copies → map f copies ≡ map f entries
cloned_map C f same [] [] all = refl
cloned_map C f same [] (d ∷ copies) all = elim all [ ]
cloned_map C f same (e ∷ entries) [] all = elim all [ ]
cloned_map C f same (e ∷ entries) (d ∷ copies) all = λ j. same e d all.0 j ∷ cloned_map C f same entries copies all.1 j

module _ {T : Type 0} {seed : ℕ} where
  pub table_removed : (next at : ℕ) (es es2 : List (SectionEntry T)) (places more names names2 full full2 : List ℕ)
      → es2 ≡ remove es at → names2 ≡ remove names at → full2 ≡ remove full at
      → AreNumbered next es2 → IsTable seed next es places names full → length more ≡ next → ArePlaced (numbers_of es2) more → IsTable seed next es2 more names2 full2
  table_removed next at es es2 places more names names2 full full2 e1 e2 e3 once h count placed =
      rw (e1, e2, e3) (table_out next at es places more names full h (rw e1 at once) count (rw e1 at placed))

module _ {B : Type 0} (f : SectionEntry Section → B) (p : SectionEntry Section → Bool) (letters : List ℕ) (list : List Item) (rows : List Row) (left : List ℕ) (at : ℕ) where
  last_apart : map f (filter p (entries_at letters list rows (left ++ at ∷ []))) ≡ map f (filter p (entries_at letters list rows left)) ++ map f (filter p (entries_at letters list rows (at ∷ [])))
  last_apart =
      ap (λ es. map f (filter p es)) (filter_map-append (λ k. option_map (entry_of_row letters list) (slice_get rows k)) left (at ∷ []))
      ∙ ap (map f) (filter-append p (entries_at letters list rows left) (entries_at letters list rows (at ∷ [])))
      ∙ map-append f (filter p (entries_at letters list rows left)) (filter p (entries_at letters list rows (at ∷ [])))

  -- the last place, with a section that passes, one that does not, or none
  pub last_found : (places : List ℕ) (r : Row) → places ≡ left ++ at ∷ [] → slice_get rows at ≡ Some r → p (entry_of_row letters list r) ≡ true
      → map f (filter p (entries_at letters list rows places)) ≡ map f (filter p (entries_at letters list rows left)) ++ f (entry_of_row letters list r) ∷ []
  last_found places r e stands passes = ap (λ ps. map f (filter p (entries_at letters list rows ps))) e ∙ last_apart ∙ rw (stands, passes) refl

  pub last_other : (places : List ℕ) (r : Row) → places ≡ left ++ at ∷ [] → slice_get rows at ≡ Some r → p (entry_of_row letters list r) ≡ false
      → map f (filter p (entries_at letters list rows left)) ≡ map f (filter p (entries_at letters list rows places))
  last_other places r e stands passes = sym (ap (λ ps. map f (filter p (entries_at letters list rows ps))) e ∙ last_apart ∙ rw (stands, passes) (append-nil (map f (filter p (entries_at letters list rows left)))))

  pub last_none : (places : List ℕ) → places ≡ left ++ at ∷ [] → slice_get rows at ≡ None
      → map f (filter p (entries_at letters list rows left)) ≡ map f (filter p (entries_at letters list rows places))
  last_none places e none = sym (ap (λ ps. map f (filter p (entries_at letters list rows ps))) e ∙ last_apart ∙ rw none (append-nil (map f (filter p (entries_at letters list rows left)))))

-- one more item
pub more_shown : {B : Type 0} (xs : List B) (x : B) → length xs < length (xs ++ x ∷ [])
more_shown xs x = rw length-append (omega arith)
