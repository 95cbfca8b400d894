-- What is left of items where marked entries are removed, moved over from the last one on.
use Rattle.std.proofs.Common.{◌≡◌, ℕ, suc, cond, ◌+◌, ◌-◌, ◌≤◌, Bool, true, false, List, [], ◌∷◌, ◌++◌, length, get_or, reverse, refl, ap, sym, subst, ◌∙◌, arith}
use Rattle.std.specs.Prelude.{◌&&◌, filter, if◌then◌else◌}
use Rattle.std.specs.List.{count_by, AllByRecursion}
use Rattle.std.proofs.lemmas.List.{map-append, length-append, length-map, length-reverse}
use Rattle.std.proofs.lemmas.List.Recursion.{is_count_by}
use Rattle.gitconf_text.specs.Part as parts
use Rattle.gitconf_items.specs.declared.items.Item.{Item}
use Rattle.gitconf_items.specs.declared.items.Item.TheVariants as items
use Rattle.gitconf_items.specs.Items.{item_of, items_of}
use Rattle.gitconf_items.specs.ItemsFit.{AreItemsWithin, ItemFits}
use Rattle.gitconf_state.specs.Edit.{is_entry_of}
use Rattle.gitconf_state.specs.Editors.{unless_blanks, without_first_line_ends, marked, begins_marked, without_marked, removed_marked, marked_count}
use Rattle.gitconf_body.proofs.EntryLemmas.{all_both}
use Rattle.gitconf_body.specs.Taken as stored
use Rattle.gitconf_body.specs.Taken.{StayWithin}
use Rattle.gitconf_body.proofs.Taken.{line_ends_shown, line_ends_all}

-- What is left of an item before others, of which the first one may go.
abbrev left : (goes : Bool) → parts.Item → (goes_behind : Bool) → List parts.Item → List parts.Item
left true i next behind = without_first_line_ends behind
left false i next behind = (if next then unless_blanks i else i ∷ []) ++ behind

abbrev begins_before : List (Bool × parts.Item) → (next : Bool) → Bool
begins_before [] next = next
begins_before (p ∷ ps) next = p.0

-- what is left of marked items before others
abbrev left_before : List (Bool × parts.Item) → (next : Bool) → List parts.Item → List parts.Item
left_before [] next behind = behind
left_before (p ∷ ps) next behind = left p.0 p.1 (begins_before ps next) (left_before ps next behind)

begins_last : (ps : List (Bool × parts.Item)) → begins_before ps false ≡ begins_marked ps
begins_last [] = refl
begins_last (p ∷ ps) = refl

left_all : (ps : List (Bool × parts.Item)) → left_before ps false [] ≡ without_marked ps
left_all [] = refl
left_all (p ∷ ps) = go p.0 (left_all ps)
  where
    go : (t : Bool) → left_before ps false [] ≡ without_marked ps → left t p.1 (begins_before ps false) (left_before ps false [])
        ≡ elim t as (λ _. List parts.Item) [ true ↦ without_first_line_ends (without_marked ps) | false ↦ (if begins_marked ps then unless_blanks p.1 else p.1 ∷ []) ++ without_marked ps ]
    go true later = ap without_first_line_ends later
    go false later = λ i. (if begins_last ps i then unless_blanks p.1 else p.1 ∷ []) ++ later i

begins_one_more : (ps : List (Bool × parts.Item)) (q : Bool × parts.Item) (next : Bool) → begins_before (ps ++ q ∷ []) next ≡ begins_before ps q.0
begins_one_more [] q next = refl
begins_one_more (p ∷ ps) q next = refl

-- the last of them first
left_last : (ps : List (Bool × parts.Item)) (q : Bool × parts.Item) (next : Bool) (behind : List parts.Item)
    → left_before (ps ++ q ∷ []) next behind ≡ left_before ps q.0 (left q.0 q.1 next behind)
left_last [] q next behind = refl
left_last (p ∷ ps) q next behind = λ i. left p.0 p.1 (begins_one_more ps q next i) (left_last ps q next behind i)

-- The mark of the last item: that of as many entries as come before it.
abbrev count : (buffer key : List ℕ) → List Item → ℕ
count buffer key [] = 0
count buffer key (i ∷ is) = elim (is_entry_of key (item_of buffer i)) [ true ↦ suc (count buffer key is) | false ↦ count buffer key is ]

counted : (buffer key : List ℕ) (is : List Item) → count buffer key is ≡ count_by (λ i. is_entry_of key (item_of buffer i)) is
counted buffer key is = is_count_by (count buffer key) (λ i. is_entry_of key (item_of buffer i)) refl one is
  where
    one : (i : Item) (is : List Item) → count buffer key (i ∷ is) ≡ cond (is_entry_of key (item_of buffer i)) (1 + count buffer key is) (count buffer key is)
    one i is = go (is_entry_of key (item_of buffer i))
      where
        go : (t : Bool) → elim t as (λ _. ℕ) [ true ↦ suc (count buffer key is) | false ↦ count buffer key is ] ≡ cond t (1 + count buffer key is) (count buffer key is)
        go true = omega arith
        go false = refl

mark_last : (buffer key : List ℕ) (marks : List Bool) (is : List Item) (i : Item)
    → marked key marks (items_of buffer (is ++ i ∷ []))
    ≡ marked key marks (items_of buffer is) ++ (is_entry_of key (item_of buffer i) && get_or marks (count buffer key is) false, item_of buffer i) ∷ []
mark_last buffer key marks [] i = go (is_entry_of key (item_of buffer i)) marks refl
  where
    go : (t : Bool) (ms : List Bool) → is_entry_of key (item_of buffer i) ≡ t
        → marked key ms (item_of buffer i ∷ []) ≡ (t && get_or ms 0 false, item_of buffer i) ∷ []
    go false ms e = rw (e, marked) refl
    go true [] e = rw (e, marked) refl
    go true (m ∷ ms) e = rw (e, marked) refl
mark_last buffer key marks (j ∷ is) i = go (is_entry_of key (item_of buffer j)) marks refl (λ ms. mark_last buffer key ms is i)
  where
    last : ℕ → List Bool → List (Bool × parts.Item)
    last n ms = (is_entry_of key (item_of buffer i) && get_or ms n false, item_of buffer i) ∷ []

    go : (t : Bool) (ms : List Bool) → is_entry_of key (item_of buffer j) ≡ t
        → ((ks : List Bool) → marked key ks (items_of buffer (is ++ i ∷ [])) ≡ marked key ks (items_of buffer is) ++ last (count buffer key is) ks)
        → marked key ms (item_of buffer j ∷ items_of buffer (is ++ i ∷ [])) ≡ marked key ms (item_of buffer j ∷ items_of buffer is) ++ last (count buffer key (j ∷ is)) ms
    go false ms e later = rw (e, marked, count) (ap (λ ps. (false, item_of buffer j) ∷ ps) (later ms))
    go true [] e later = rw (e, marked, count) (ap (λ ps. (false, item_of buffer j) ∷ ps) (later []))
    go true (m ∷ ms) e later = rw (e, marked, count) (ap (λ ps. (m, item_of buffer j) ∷ ps) (later ms))

-- one item more is counted, if it is an entry of the key
count_last : (buffer key : List ℕ) (is : List Item) (i : Item) → count buffer key (is ++ i ∷ []) ≡ count buffer key is + (if is_entry_of key (item_of buffer i) then 1 else 0)
count_last buffer key [] i = go (is_entry_of key (item_of buffer i)) refl
  where
    go : (t : Bool) → is_entry_of key (item_of buffer i) ≡ t → count buffer key (i ∷ []) ≡ 0 + (if t then 1 else 0)
    go true e = rw (e, count) refl
    go false e = rw (e, count) refl
count_last buffer key (j ∷ is) i = go (is_entry_of key (item_of buffer j)) refl (count_last buffer key is i)
  where
    go : (t : Bool) → is_entry_of key (item_of buffer j) ≡ t → count buffer key (is ++ i ∷ []) ≡ count buffer key is + (if is_entry_of key (item_of buffer i) then 1 else 0)
        → count buffer key (j ∷ (is ++ i ∷ [])) ≡ count buffer key (j ∷ is) + (if is_entry_of key (item_of buffer i) then 1 else 0)
    go true e later = rw (e, count) (omega (arith, later))
    go false e later = rw (e, count) later

-- so are those that go
goes_last : (ps : List (Bool × parts.Item)) (q : Bool × parts.Item) → length (filter (λ (p : Bool × parts.Item). p.0) (ps ++ q ∷ [])) ≡ length (filter (λ (p : Bool × parts.Item). p.0) ps) + (if q.0 then 1 else 0)
goes_last [] q = go q.0 refl
  where
    go : (t : Bool) → q.0 ≡ t → length (filter (λ (p : Bool × parts.Item). p.0) (q ∷ [])) ≡ 0 + (if t then 1 else 0)
    go true e = rw (e, filter) refl
    go false e = rw (e, filter) refl
goes_last (p ∷ ps) q = go p.0 refl (goes_last ps q)
  where
    go : (t : Bool) → p.0 ≡ t → length (filter (λ (p : Bool × parts.Item). p.0) (ps ++ q ∷ [])) ≡ length (filter (λ (p : Bool × parts.Item). p.0) ps) + (if q.0 then 1 else 0)
        → length (filter (λ (p : Bool × parts.Item). p.0) (p ∷ (ps ++ q ∷ []))) ≡ length (filter (λ (p : Bool × parts.Item). p.0) (p ∷ ps)) + (if q.0 then 1 else 0)
    go true e later = rw (e, filter) (omega (arith, later))
    go false e later = rw (e, filter) later

goes_within : (key : List ℕ) (marks : List Bool) (is : List parts.Item) → marked_count key marks is ≤ length is
goes_within key marks [] = omega arith
goes_within key marks (i ∷ is) = go (is_entry_of key i) marks refl (λ ms. goes_within key ms is)
  where
    one : (t : Bool) (ps : List (Bool × parts.Item)) → length (filter (λ (p : Bool × parts.Item). p.0) ps) ≤ length is → length (filter (λ (p : Bool × parts.Item). p.0) ((t, i) ∷ ps)) ≤ suc (length is)
    one true ps less = omega (arith, less)
    one false ps less = omega (arith, less)

    go : (t : Bool) (ms : List Bool) → is_entry_of key i ≡ t → ((ks : List Bool) → marked_count key ks is ≤ length is) → marked_count key ms (i ∷ is) ≤ suc (length is)
    go false ms e later = rw (e, marked) (one false (marked key ms is) (later ms))
    go true [] e later = rw (e, marked) (one false (marked key [] is) (later []))
    go true (m ∷ ms) e later = rw (e, marked) (one m (marked key ms is) (later ms))

-- What was moved over so far, and the items that are left to move.
pub record Moved (buffer key : List ℕ) (marks : List Bool) (all is moved : List Item) (room entries gone : ℕ) (next : Bool) : Type 0 where
  pub left_is : left_before (marked key marks (items_of buffer is)) next (items_of buffer (reverse moved)) ≡ removed_marked key marks (items_of buffer all)
  pub entries_are : entries ≡ count buffer key is
  pub gone_are : gone + marked_count key marks (items_of buffer is) ≡ marked_count key marks (items_of buffer all)
  pub fits : length is + length moved ≤ room
  pub less : length is ≤ length all
  pub within : (limit : ℕ) → AreItemsWithin limit all → AreItemsWithin limit is × AreItemsWithin limit (reverse moved)

pub none_moved : (buffer key : List ℕ) (marks : List Bool) (all moved : List Item) (room entries : ℕ) → entries ≡ count_by (λ i. is_entry_of key (item_of buffer i)) all → moved ≡ [] → length all ≤ room
    → Moved buffer key marks all all moved room entries 0 false
none_moved buffer key marks all moved room entries are empty fits = record {
  left_is = ap (λ ms. left_before (marked key marks (items_of buffer all)) false (items_of buffer (reverse ms))) empty ∙ left_all (marked key marks (items_of buffer all));
  entries_are = are ∙ sym (counted buffer key all);
  gone_are = omega arith;
  fits = let none : length moved ≡ 0 = ap length empty in omega (arith, none, fits);
  less = omega arith;
  within = λ limit fit. (fit, subst (λ ms. AreItemsWithin limit (reverse ms)) (sym empty) tt);
}

-- the entries before the last item
counted_before : (buffer key : List ℕ) (is front : List Item) (i : Item) (entries before : ℕ) (of_key : Bool) → is ≡ front ++ i ∷ [] → of_key ≡ is_entry_of key (item_of buffer i)
    → entries ≡ count buffer key is → before ≡ entries - (if of_key then 1 else 0) → before ≡ count buffer key front
counted_before buffer key is front i entries before of_key cut names counted less =
    let all : entries ≡ count buffer key front + (if of_key then 1 else 0) = counted ∙ ap (count buffer key) cut ∙ count_last buffer key front i ∙ ap (λ t. count buffer key front + (if t then 1 else 0)) (sym names) in
    go of_key all less
  where
    go : (t : Bool) → entries ≡ count buffer key front + (if t then 1 else 0) → before ≡ entries - (if t then 1 else 0) → before ≡ count buffer key front
    go true all less = omega (arith, all, less)
    go false all less = omega (arith, all, less)

shorter : (is : List Item) → length (stored.behind_line_ends is) ≤ length is
shorter [] = omega arith
shorter (items.LineEnds run ∷ is) = omega arith
shorter (items.Blanks run ∷ is) = omega arith
shorter (items.Comment tag text ∷ is) = omega arith
shorter (items.Entry e ∷ is) = omega arith

longest : (is : List Item) (moved old : List Item) → reverse moved ≡ stored.behind_line_ends (reverse old) → length moved ≤ length old
longest is moved old same =
    let a = length-reverse moved in
    let b = length-reverse old in
    let c = shorter (reverse old) in
    let d : length (reverse moved) ≡ length (stored.behind_line_ends (reverse old)) = ap length same in
    omega (arith, a, b, c, d)

front_all : (P : Item → Type 0) (front : List Item) (i : Item) → AllByRecursion P (front ++ i ∷ []) → AllByRecursion P front × P i
front_all P [] i all = (tt, all.0)
front_all P (j ∷ front) i all = let later = front_all P front i all.1 in ((all.0, later.0), later.1)

-- what is left where the last item is moved
left_more : (buffer key : List ℕ) (marks : List Bool) (is front : List Item) (i : Item) (next goes : Bool) (behind : List parts.Item) → is ≡ front ++ i ∷ []
    → goes ≡ (is_entry_of key (item_of buffer i) && get_or marks (count buffer key front) false)
    → left_before (marked key marks (items_of buffer is)) next behind ≡ left_before (marked key marks (items_of buffer front)) goes (left goes (item_of buffer i) next behind)
left_more buffer key marks is front i next goes behind cut told =
    ap (λ js. left_before (marked key marks (items_of buffer js)) next behind) cut
    ∙ ap (λ ps. left_before ps next behind) (mark_last buffer key marks front i)
    ∙ left_last (marked key marks (items_of buffer front)) (is_entry_of key (item_of buffer i) && get_or marks (count buffer key front) false, item_of buffer i) next behind
    ∙ ap (λ t. left_before (marked key marks (items_of buffer front)) t (left t (item_of buffer i) next behind)) (sym told)

goes_more : (buffer key : List ℕ) (marks : List Bool) (is front : List Item) (i : Item) (goes : Bool) → is ≡ front ++ i ∷ []
    → goes ≡ (is_entry_of key (item_of buffer i) && get_or marks (count buffer key front) false)
    → marked_count key marks (items_of buffer is) ≡ marked_count key marks (items_of buffer front) + (if goes then 1 else 0)
goes_more buffer key marks is front i goes cut told =
    ap (λ js. marked_count key marks (items_of buffer js)) cut
    ∙ ap (λ ps. length (filter (λ (p : Bool × parts.Item). p.0) ps)) (mark_last buffer key marks front i)
    ∙ goes_last (marked key marks (items_of buffer front)) (is_entry_of key (item_of buffer i) && get_or marks (count buffer key front) false, item_of buffer i)
    ∙ ap (λ t. marked_count key marks (items_of buffer front) + (if t then 1 else 0)) (sym told)

-- The last item is looked at.
module _ (buffer key : List ℕ) (marks : List Bool) (all is front : List Item) (i : Item) (moved : List Item) (room entries before gone : ℕ) (next of_key goes : Bool)
    (m : Moved buffer key marks all is moved room entries gone next) (cut : is ≡ front ++ i ∷ []) (names : of_key ≡ is_entry_of key (item_of buffer i))
    (less : before ≡ entries - (if of_key then 1 else 0)) (told : goes ≡ (of_key && get_or marks before false)) where
  abbrev before_is : before ≡ count buffer key front
  before_is = counted_before buffer key is front i entries before of_key cut names m.entries_are less

  abbrev told_is : goes ≡ (is_entry_of key (item_of buffer i) && get_or marks (count buffer key front) false)
  told_is = told ∙ (λ k. names k && get_or marks (before_is k) false)

  abbrev lengths : length is ≡ length front + 1
  lengths = ap length cut ∙ length-append front (i ∷ [])

  abbrev parts_fit : (limit : ℕ) → AreItemsWithin limit all → (AreItemsWithin limit front × ItemFits limit i) × AreItemsWithin limit (reverse moved)
  parts_fit limit fit =
      let w = m.within limit fit in
      (front_all (ItemFits limit) front i (subst (AreItemsWithin limit) cut w.0), w.1)

  -- it goes
  pub gone_more : (new : List Item) (capacity : ℕ) → goes ≡ true → reverse new ≡ stored.behind_line_ends (reverse moved) → capacity ≡ room
      → Moved buffer key marks all front new capacity before (gone + 1) goes
  gone_more new capacity passes same kept = record {
    left_is = ap (left_before (marked key marks (items_of buffer front)) goes)
        (ap (items_of buffer) same ∙ line_ends_shown buffer (reverse moved) ∙ ap (λ t. left t (item_of buffer i) next (items_of buffer (reverse moved))) (sym passes))
        ∙ sym (left_more buffer key marks is front i next goes (items_of buffer (reverse moved)) cut told_is) ∙ m.left_is;
    entries_are = before_is;
    gone_are =
        let more = goes_more buffer key marks is front i goes cut told_is ∙ ap (λ t. marked_count key marks (items_of buffer front) + (if t then 1 else 0)) passes in
        let was = m.gone_are in
        omega (arith, more, was);
    fits = let l = longest is new moved same in let n = lengths in let f = m.fits in omega (arith, l, n, f, kept);
    less = let n = lengths in let f = m.less in omega (arith, n, f);
    within = λ limit fit. let w = parts_fit limit fit in (w.0.0, subst (AreItemsWithin limit) (sym same) (line_ends_all limit (reverse moved) w.1));
  }

  -- it stays
  pub kept_more : (new : List Item) (capacity : ℕ) → goes ≡ false → reverse new ≡ (if next then stored.unless_blanks i else i ∷ []) ++ reverse moved → capacity ≡ room
      → Moved buffer key marks all front new capacity before gone goes
  kept_more new capacity fails same kept = record {
    left_is = ap (left_before (marked key marks (items_of buffer front)) goes)
        (ap (items_of buffer) same ∙ map-append (item_of buffer) (if next then stored.unless_blanks i else i ∷ []) (reverse moved)
        ∙ ap (λ xs. xs ++ items_of buffer (reverse moved)) (one_shown next i)
        ∙ ap (λ t. left t (item_of buffer i) next (items_of buffer (reverse moved))) (sym fails))
        ∙ sym (left_more buffer key marks is front i next goes (items_of buffer (reverse moved)) cut told_is) ∙ m.left_is;
    entries_are = before_is;
    gone_are =
        let more = goes_more buffer key marks is front i goes cut told_is ∙ ap (λ t. marked_count key marks (items_of buffer front) + (if t then 1 else 0)) fails in
        let was = m.gone_are in
        omega (arith, more, was);
    fits =
        let a = length-reverse new in
        let b = length-reverse moved in
        let c : length (reverse new) ≡ length (if next then stored.unless_blanks i else i ∷ []) + length (reverse moved) = ap length same ∙ length-append (if next then stored.unless_blanks i else i ∷ []) (reverse moved) in
        let d = one_at_most next i in
        let n = lengths in
        let f = m.fits in
        omega (arith, a, b, c, d, n, f, kept);
    less = let n = lengths in let f = m.less in omega (arith, n, f);
    within = λ limit fit.
        let w = parts_fit limit fit in
        (w.0.0, subst (AreItemsWithin limit) (sym same) (all_both (ItemFits limit) (if next then stored.unless_blanks i else i ∷ []) (reverse moved) (one_fits limit next i w.0.1) w.1));
  }
    where
      one_shown : (t : Bool) (i : Item) → items_of buffer (if t then stored.unless_blanks i else i ∷ []) ≡ (if t then unless_blanks (item_of buffer i) else item_of buffer i ∷ [])
      one_shown false i = refl
      one_shown true (items.Blanks run) = refl
      one_shown true (items.LineEnds run) = refl
      one_shown true (items.Comment tag text) = refl
      one_shown true (items.Entry e) = refl

      one_at_most : (t : Bool) (i : Item) → length (if t then stored.unless_blanks i else i ∷ []) ≤ 1
      one_at_most false i = omega arith
      one_at_most true (items.Blanks run) = omega arith
      one_at_most true (items.LineEnds run) = omega arith
      one_at_most true (items.Comment tag text) = omega arith
      one_at_most true (items.Entry e) = omega arith

      one_fits : (limit : ℕ) (t : Bool) (i : Item) → ItemFits limit i → AllByRecursion (ItemFits limit) (if t then stored.unless_blanks i else i ∷ [])
      one_fits limit false i fit = (fit, tt)
      one_fits limit true (items.Blanks run) fit = tt
      one_fits limit true (items.LineEnds run) fit = (fit, tt)
      one_fits limit true (items.Comment tag text) fit = (fit, tt)
      one_fits limit true (items.Entry e) fit = (fit, tt)

-- there is room for one more
pub room_for_one : (buffer key : List ℕ) (marks : List Bool) (all is front : List Item) (i : Item) (moved : List Item) (room entries gone : ℕ) (next : Bool)
    → Moved buffer key marks all is moved room entries gone next → is ≡ front ++ i ∷ [] → length moved + 1 ≤ room
room_for_one buffer key marks all is front i moved room entries gone next m cut =
    let n : length is ≡ length front + 1 = ap length cut ∙ length-append front (i ∷ []) in
    let f = m.fits in
    omega (arith, n, f)

-- no more go than there are items
pub gone_small : (buffer key : List ℕ) (marks : List Bool) (all is front : List Item) (i : Item) (moved : List Item) (room entries before gone : ℕ) (next of_key goes : Bool)
    → Moved buffer key marks all is moved room entries gone next → is ≡ front ++ i ∷ [] → of_key ≡ is_entry_of key (item_of buffer i)
    → before ≡ entries - (if of_key then 1 else 0) → goes ≡ (of_key && get_or marks before false) → goes ≡ true → gone + 1 ≤ length all
gone_small buffer key marks all is front i moved room entries before gone next of_key goes m cut names less told passes =
    let more = goes_more buffer key marks is front i goes cut (told_is buffer key marks all is front i moved room entries before gone next of_key goes m cut names less told)
    ∙ ap (λ t. marked_count key marks (items_of buffer front) + (if t then 1 else 0)) passes in
    let was = m.gone_are in
    let all_of = goes_within key marks (items_of buffer all) in
    let same : length (items_of buffer all) ≡ length all = length-map all (item_of buffer) in
    omega (arith, more, was, all_of, same)

-- all was moved
pub all_moved : (buffer key : List ℕ) (marks : List Bool) (all is moved : List Item) (room entries gone : ℕ) (next : Bool)
    → Moved buffer key marks all is moved room entries gone next → is ≡ [] → items_of buffer (reverse moved) ≡ removed_marked key marks (items_of buffer all)
all_moved buffer key marks all is moved room entries gone next m none =
    ap (λ js. left_before (marked key marks (items_of buffer js)) next (items_of buffer (reverse moved))) (sym none) ∙ m.left_is

pub all_gone : (buffer key : List ℕ) (marks : List Bool) (all is moved : List Item) (room entries gone : ℕ) (next : Bool)
    → Moved buffer key marks all is moved room entries gone next → is ≡ [] → gone ≡ marked_count key marks (items_of buffer all)
all_gone buffer key marks all is moved room entries gone next m none =
    let zero : marked_count key marks (items_of buffer is) ≡ 0 = ap (λ js. marked_count key marks (items_of buffer js)) none in
    let was = m.gone_are in
    omega (arith, zero, was)
