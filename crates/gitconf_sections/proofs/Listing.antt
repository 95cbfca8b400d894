-- Bodies in the list that the sections share.
use Rattle.std.proofs.Common.{◌≡◌, ℕ, zero, suc, ◌+◌, ◌-◌, ◌≤◌, List, [], ◌∷◌, ◌++◌, ◌<◌, length, take, drop, get_or, remove, set, inl, inr, refl, ap, sym, subst, ◌∙◌, arith}
use Rattle.std.specs.List.{AllByRecursion, AllZip}
use Rattle.std.proofs.lemmas.List.{drop-append-le, take-append-le, length-drop, map-append}
use Rattle.std.proofs.Math.Seq.{drop-append-add}
use Rattle.gitconf_items.specs.declared.items.Item.{Item}
use Rattle.gitconf_sections.specs.declared.runs.Run.{Run}
use Rattle.gitconf_sections.specs.Pairs.{EachToEach, EachTwo}
use Rattle.gitconf_sections.specs.Runs.{woven}
use Rattle.gitconf_text.specs.Sections.{SectionEntry, changed_at}
use Rattle.gitconf_sections.proofs.Woven.{all_append, all_woven, map_woven, two_joined, woven_apart}
use Rattle.gitconf_sections.specs.declared.body.Body.{Body}
use Rattle.gitconf_sections.specs.declared.body.Body.TheVariants.{Listed, Nothing, Own}
use Rattle.gitconf_sections.specs.declared.row.Row.{Row}
use Rattle.gitconf_sections.specs.Section.{AreDisjoint, AreListed, IsBeside, IsSameBut, IsSameButIn, NeedsNoMore, StandsWithin, Section, bodies_of, body_items, end_behind, rebased, seen_as}
use Rattle.gitconf_sections.specs.Rows.{entries_of, entry_of_row, moved_rows}

-- one body
wider : (a b c d : ℕ) (body : Body) → c ≤ a → b ≤ d → StandsWithin a b body → StandsWithin c d body
wider a b c d (Listed start len) less more stands = (omega (arith, less, stands.0), omega (arith, more, stands.1))
wider a b c d (Own own) less more stands = tt
wider a b c d Nothing less more stands = tt

-- two of them, the other way round, and one before a place and one after it
disjoint_back : (a b : Body) → AreDisjoint a b → AreDisjoint b a
disjoint_back (Listed start len) (Listed from count) apart = elim apart [ inl before ↦ inr before | inr behind ↦ inl behind ]
disjoint_back (Listed start len) (Own own) apart = tt
disjoint_back (Listed start len) Nothing apart = tt
disjoint_back (Own own) (Listed start len) apart = tt
disjoint_back (Own own) (Own other) apart = tt
disjoint_back (Own own) Nothing apart = tt
disjoint_back Nothing (Listed start len) apart = tt
disjoint_back Nothing (Own own) apart = tt
disjoint_back Nothing Nothing apart = tt

one_behind : (a mid b : ℕ) (x y : Body) → StandsWithin a mid x → StandsWithin mid b y → AreDisjoint x y
one_behind a mid b (Listed start len) (Listed from count) stands other = inl (omega (arith, stands.1, other.0))
one_behind a mid b (Listed start len) (Own own) stands other = tt
one_behind a mid b (Listed start len) Nothing stands other = tt
one_behind a mid b (Own own) y stands other = tt
one_behind a mid b Nothing y stands other = tt

-- one that needs no more of the list
less_within : (a b : ℕ) (body less : Body) → NeedsNoMore body less → StandsWithin a b body → StandsWithin a b less
less_within a b (Listed from len) (Listed start count) is stands = (omega (arith, is.0, stands.0), omega (arith, is.0, is.1, stands.1))
less_within a b (Own own) (Listed start count) is stands = absurd is
less_within a b Nothing (Listed start count) is stands = absurd is
less_within a b body (Own own) is stands = tt
less_within a b body Nothing is stands = tt

less_beside : (from len start count : ℕ) (other : Body) → start ≡ from → count ≤ len → IsBeside from len other → IsBeside start count other
less_beside from len start count (Listed at n) same less apart = elim apart [ inl before ↦ inl (omega (arith, same, less, before)) | inr behind ↦ inr (omega (arith, same, behind)) ]
less_beside from len start count (Own own) same less apart = tt
less_beside from len start count Nothing same less apart = tt

less_disjoint : (body less other : Body) → NeedsNoMore body less → AreDisjoint body other → AreDisjoint less other
less_disjoint (Listed from len) (Listed start count) other is apart = less_beside from len start count other is.0 is.1 apart
less_disjoint (Own own) (Listed start count) other is apart = absurd is
less_disjoint Nothing (Listed start count) other is apart = absurd is
less_disjoint body (Own own) other is apart = tt
less_disjoint body Nothing other is apart = tt

pub needs_itself : (body : Body) → NeedsNoMore body body
needs_itself (Listed from len) = (refl, omega arith)
needs_itself (Own own) = tt
needs_itself Nothing = tt

body_more : (list more : List Item) (from to : ℕ) (body : Body) → StandsWithin from to body → to ≤ length list → body_items (list ++ more) body ≡ body_items list body
body_more list more from to (Listed start len) stands within =
    ap (take len) (drop-append-le start list more (omega (arith, stands.1, within)))
    ∙ take-append-le len (drop start list) more (omega (arith, stands.1, within, length-drop start list))
body_more list more from to (Own own) stands within = refl
body_more list more from to Nothing stands within = refl

entry_same : (letters : List ℕ) (old new : List Item) (r : Row) → body_items new r.body ≡ body_items old r.body → entry_of_row letters new r ≡ entry_of_row letters old r
entry_same letters old new r same = λ i. record (entry_of_row letters old r) { section = seen_as r.header r.meta (same i) r.held.items }

-- they are between places further apart
all_wider : (a b c d : ℕ) (bodies : List Body) → c ≤ a → b ≤ d → AllByRecursion (StandsWithin a b) bodies → AllByRecursion (StandsWithin c d) bodies
all_wider a b c d [] less more all = tt
all_wider a b c d (x ∷ bodies) less more all = (wider a b c d x less more all.0, all_wider a b c d bodies less more all.1)

pub listed_later : (from a b : ℕ) (rows : List Row) → a ≤ b → AreListed from a rows → AreListed from b rows
listed_later from a b rows less are = (all_wider from a from b (bodies_of rows) (omega arith) less are.0, are.1)

-- more of them after
ones_behind : (a mid b : ℕ) (x : Body) (ys : List Body) → StandsWithin a mid x → AllByRecursion (StandsWithin mid b) ys → AllByRecursion (AreDisjoint x) ys
ones_behind a mid b x [] stands all = tt
ones_behind a mid b x (y ∷ ys) stands all = (one_behind a mid b x y stands all.0, ones_behind a mid b x ys stands all.1)

all_behind : (a mid b : ℕ) (xs ys : List Body) → AllByRecursion (StandsWithin a mid) xs → AllByRecursion (StandsWithin mid b) ys → EachToEach AreDisjoint xs ys
all_behind a mid b [] ys all others = tt
all_behind a mid b (x ∷ xs) ys all others = (ones_behind a mid b x ys all.0 others, all_behind a mid b xs ys all.1 others)

pub listed_both : (from mid to : ℕ) (rows more : List Row) → from ≤ mid → mid ≤ to → AreListed from mid rows → AreListed mid to more → AreListed from to (rows ++ more)
listed_both from mid to rows more less further are others =
    let xs = bodies_of rows in
    let ys = bodies_of more in
    rw (map-append (λ (r : Row). r.body) rows more) (
      all_append (StandsWithin from to) xs ys (all_wider from mid from to xs (omega arith) further are.0) (all_wider mid to from to ys less (omega arith) others.0),
      two_joined AreDisjoint xs ys are.1 others.1 (all_behind from mid to xs ys are.0 others.0),
    )

-- one fewer
all_removed : (P : Body → Type 0) (rows : List Row) (at : ℕ) → AllByRecursion P (bodies_of rows) → AllByRecursion P (bodies_of (remove rows at))
all_removed P [] zero all = tt
all_removed P [] (suc at) all = tt
all_removed P (r ∷ rows) zero all = all.1
all_removed P (r ∷ rows) (suc at) all = (all.0, all_removed P rows at all.1)

apart_removed : (rows : List Row) (at : ℕ) → EachTwo AreDisjoint (bodies_of rows) → EachTwo AreDisjoint (bodies_of (remove rows at))
apart_removed [] zero apart = tt
apart_removed [] (suc at) apart = tt
apart_removed (r ∷ rows) zero apart = apart.1
apart_removed (r ∷ rows) (suc at) apart = (all_removed (AreDisjoint r.body) rows at apart.0, apart_removed rows at apart.1)

pub listed_removed : (from to : ℕ) (rows : List Row) (at : ℕ) → AreListed from to rows → AreListed from to (remove rows at)
listed_removed from to rows at are = (all_removed (StandsWithin from to) rows at are.0, apart_removed rows at are.1)

-- in another order
pub listed_woven : (runs : List Run) (n from to : ℕ) (rows : List Row) → AreListed from to rows → AreListed from to (woven runs n rows)
listed_woven runs n from to rows are =
    rw (map_woven (λ (r : Row). r.body) runs n rows)
    (all_woven (StandsWithin from to) runs n (bodies_of rows) are.0, woven_apart AreDisjoint disjoint_back runs n (bodies_of rows) are.1)

-- each needs no more of the list
all_less : (from to : ℕ) (bodies less : List Body) → AllZip NeedsNoMore bodies less → AllByRecursion (StandsWithin from to) bodies → AllByRecursion (StandsWithin from to) less
all_less from to [] [] zip all = tt
all_less from to [] (y ∷ less) zip all = elim zip [ ]
all_less from to (x ∷ bodies) [] zip all = elim zip [ ]
all_less from to (x ∷ bodies) (y ∷ less) zip all = (less_within from to x y zip.0 all.0, all_less from to bodies less zip.1 all.1)

beside_less : (a b : Body) (bodies less : List Body) → NeedsNoMore a b → AllZip NeedsNoMore bodies less → AllByRecursion (AreDisjoint a) bodies → AllByRecursion (AreDisjoint b) less
beside_less a b [] [] one zip all = tt
beside_less a b [] (y ∷ less) one zip all = elim zip [ ]
beside_less a b (x ∷ bodies) [] one zip all = elim zip [ ]
beside_less a b (x ∷ bodies) (y ∷ less) one zip all = (
  disjoint_back y b (less_disjoint x y b zip.0 (disjoint_back b x (less_disjoint a b x one all.0))),
  beside_less a b bodies less one zip.1 all.1,
)

apart_less : (bodies less : List Body) → AllZip NeedsNoMore bodies less → EachTwo AreDisjoint bodies → EachTwo AreDisjoint less
apart_less [] [] zip apart = tt
apart_less [] (y ∷ less) zip apart = elim zip [ ]
apart_less (x ∷ bodies) [] zip apart = elim zip [ ]
apart_less (x ∷ bodies) (y ∷ less) zip apart = (beside_less x y bodies less zip.0 zip.1 apart.0, apart_less bodies less zip.1 apart.1)

pub listed_less : (from to : ℕ) (rows others : List Row) → AllZip NeedsNoMore (bodies_of rows) (bodies_of others) → AreListed from to rows → AreListed from to others
listed_less from to rows others less are = (all_less from to (bodies_of rows) (bodies_of others) less are.0, apart_less (bodies_of rows) (bodies_of others) less are.1)

-- they are read the same where items are put after the list
all_more : (letters : List ℕ) (list more : List Item) (rows : List Row) → AllByRecursion (StandsWithin 0 (length list)) (bodies_of rows) → entries_of letters (list ++ more) rows ≡ entries_of letters list rows
all_more letters list more [] all = refl
all_more letters list more (r ∷ rows) all =
    λ i. entry_same letters list (list ++ more) r (body_more list more 0 (length list) r.body all.0 (omega arith)) i ∷ all_more letters list more rows all.1 i

pub read_more : (letters : List ℕ) (list more : List Item) (rows : List Row) → AreListed 0 (length list) rows → entries_of letters (list ++ more) rows ≡ entries_of letters list rows
read_more letters list more rows are = all_more letters list more rows are.0

-- the body at a place
all_at : (P : Body → Type 0) (rows : List Row) (at : ℕ) (r : Row) → at < length rows → AllByRecursion P (bodies_of rows) → r ≡ get_or rows at r → P r.body
all_at P [] at r within all is = absurd (omega (arith, within))
all_at P (x ∷ rows) zero r within all is = subst (λ (r : Row). P r.body) (sym is) all.0
all_at P (x ∷ rows) (suc at) r within all is = all_at P rows at r (omega (arith, within)) all.1 is

-- A part of two lists that are the same there.
part_before : (from len start count : ℕ) (old new : List Item) → IsSameBut from len old new → start + count ≤ from → take count (drop start new) ≡ take count (drop start old)
part_before from len start count old new same before =
    sym (within_front new) ∙ ap (λ xs. take count (drop start xs)) same.before ∙ within_front old
  where
    within_front : (xs : List Item) → take count (drop start (take from xs)) ≡ take count (drop start xs)
    within_front xs = front start from xs (omega (arith, before))
      where
        shorter : (n m : ℕ) (ys : List Item) → n ≤ m → take n (take m ys) ≡ take n ys
        shorter zero m ys less = refl
        shorter (suc n) zero ys less = absurd (omega (arith, less))
        shorter (suc n) (suc m) [] less = refl
        shorter (suc n) (suc m) (y ∷ ys) less = ap (λ zs. y ∷ zs) (shorter n m ys (omega (arith, less)))

        front : (s f : ℕ) (ys : List Item) → s + count ≤ f → take count (drop s (take f ys)) ≡ take count (drop s ys)
        front zero f ys less = shorter count f ys (omega (arith, less))
        front (suc s) zero ys less = absurd (omega (arith, less))
        front (suc s) (suc f) [] less = refl
        front (suc s) (suc f) (y ∷ ys) less = front s f ys (omega (arith, less))

part_behind : (from len start count : ℕ) (old new : List Item) → IsSameBut from len old new → from + len ≤ start → take count (drop start new) ≡ take count (drop start old)
part_behind from len start count old new same behind = ap (take count) (sym (rest new) ∙ ap (drop (start - (from + len))) same.behind ∙ rest old)
  where
    none : (n : ℕ) → drop {A = Item} n [] ≡ []
    none zero = refl
    none (suc n) = refl

    twice : (m n k : ℕ) (xs : List Item) → m + n ≡ k → drop n (drop m xs) ≡ drop k xs
    twice zero n k xs is = ap (λ k. drop k xs) (let same : n ≡ k = omega (arith, is) in same)
    twice (suc m) n k [] is = none n ∙ sym (none k)
    twice (suc m) n zero (x ∷ xs) is = absurd (omega (arith, is))
    twice (suc m) n (suc k) (x ∷ xs) is = twice m n k xs (omega (arith, is))

    rest : (xs : List Item) → drop (start - (from + len)) (drop (from + len) xs) ≡ drop start xs
    rest xs =
        twice (from + len) (start - (from + len)) start xs (omega (arith, behind))

body_beside : (from len : ℕ) (old new : List Item) (body : Body) → IsSameBut from len old new → IsBeside from len body → body_items new body ≡ body_items old body
body_beside from len old new (Listed start count) same apart = elim apart [ inl behind ↦ part_behind from len start count old new same behind | inr before ↦ part_before from len start count old new same before ]
body_beside from len old new (Own own) same apart = refl
body_beside from len old new Nothing same apart = refl

all_beside : (letters : List ℕ) (from len : ℕ) (old new : List Item) (rows : List Row) → IsSameBut from len old new → AllByRecursion (IsBeside from len) (bodies_of rows) → entries_of letters new rows ≡ entries_of letters old rows
all_beside letters from len old new [] same all = refl
all_beside letters from len old new (r ∷ rows) same all =
    λ i. entry_same letters old new r (body_beside from len old new r.body same all.0) i ∷ all_beside letters from len old new rows same all.1 i

-- The body at a place needs no more of the list.
all_themselves : (bodies : List Body) → AllZip NeedsNoMore bodies bodies
all_themselves [] = tt
all_themselves (b ∷ bodies) = (needs_itself b, all_themselves bodies)

one_less : (rows : List Row) (at : ℕ) (r t : Row) → r ≡ get_or rows at r → NeedsNoMore r.body t.body → AllZip NeedsNoMore (bodies_of rows) (bodies_of (set rows at t))
one_less [] at r t is less = tt
one_less (x ∷ rows) zero r t is less = (subst (λ (r : Row). NeedsNoMore r.body t.body) is less, all_themselves (bodies_of rows))
one_less (x ∷ rows) (suc at) r t is less = (needs_itself x.body, one_less rows at r t is less)

pub listed_set : (from to : ℕ) (rows : List Row) (at : ℕ) (r t : Row) → AreListed from to rows → r ≡ get_or rows at r → NeedsNoMore r.body t.body → AreListed from to (set rows at t)
listed_set from to rows at r t are is less = listed_less from to rows (set rows at t) (one_less rows at r t is less) are

-- What is read where a row is changed, and its body in the list or beside it.
module _ (letters : List ℕ) (old new : List Item) (t : Row) (f : SectionEntry Section → SectionEntry Section) where
  row_changed : new ≡ old → (rows : List Row) (at : ℕ) (r : Row) → r ≡ get_or rows at r → entry_of_row letters new t ≡ f (entry_of_row letters old r)
      → entries_of letters new (set rows at t) ≡ changed_at f (entries_of letters old rows) at
  row_changed same [] at r is shows = refl
  row_changed same (x ∷ rows) zero r is shows = λ i. (shows ∙ ap (λ r. f (entry_of_row letters old r)) is) i ∷ entries_of letters (same i) rows
  row_changed same (x ∷ rows) (suc at) r is shows = λ i. entry_of_row letters (same i) x ∷ row_changed same rows at r is shows i

  part_changed : (start len : ℕ) → IsSameBut start len old new → (rows : List Row) (at : ℕ) (r : Row) → EachTwo AreDisjoint (bodies_of rows) → r.body ≡ Listed start len → at < length rows → r ≡ get_or rows at r
      → entry_of_row letters new t ≡ f (entry_of_row letters old r) → entries_of letters new (set rows at t) ≡ changed_at f (entries_of letters old rows) at
  part_changed start len same [] at r apart body within is shows = absurd (omega (arith, within))
  part_changed start len same (x ∷ rows) zero r apart body within is shows =
      let its : x.body ≡ Listed start len = ap (λ (r : Row). r.body) (sym is) ∙ body in
      let others : AllByRecursion (IsBeside start len) (bodies_of rows) = subst (λ b. AllByRecursion (AreDisjoint b) (bodies_of rows)) its apart.0 in
      λ i. (shows ∙ ap (λ r. f (entry_of_row letters old r)) is) i ∷ all_beside letters start len old new rows same others i
  part_changed start len same (x ∷ rows) (suc at) r apart body within is shows =
      let below : at < length rows = omega (arith, within) in
      let other : AreDisjoint r.body x.body = disjoint_back x.body r.body (all_at (AreDisjoint x.body) rows at r below apart.0 is) in
      let beside : IsBeside start len x.body = subst (λ b. AreDisjoint b x.body) body other in
      λ i. entry_same letters old new x (body_beside start len old new x.body same beside) i ∷ part_changed start len same rows at r apart.1 body below is shows i

  pub entries_changed : (rows : List Row) (at : ℕ) (r : Row) → AreListed 0 (length old) rows → at < length rows → r ≡ get_or rows at r → IsSameButIn old new r.body
      → entry_of_row letters new t ≡ f (entry_of_row letters old r) → entries_of letters new (set rows at t) ≡ changed_at f (entries_of letters old rows) at
  entries_changed rows at r are within is same shows = go r.body refl same
    where
      go : (b : Body) → r.body ≡ b → IsSameButIn old new b → entries_of letters new (set rows at t) ≡ changed_at f (entries_of letters old rows) at
      go (Listed start len) body same = part_changed start len same rows at r are.1 body within is shows
      go (Own own) body same = row_changed same rows at r is shows
      go Nothing body same = row_changed same rows at r is shows

-- the list stays as long
pub as_long : (old new : List Item) (body : Body) → IsSameButIn old new body → length new ≡ length old
as_long old new (Listed from len) same = same.long
as_long old new (Own own) same = ap length same
as_long old new Nothing same = ap length same

-- the body at a place ends within the list
pub ends_within : (to : ℕ) (rows : List Row) (at : ℕ) (r : Row) → AreListed 0 to rows → at < length rows → r ≡ get_or rows at r → end_behind 0 r.body ≤ to
ends_within to rows at r are within is = go r.body (all_at (StandsWithin 0 to) rows at r within are.0 is)
  where
    go : (b : Body) → StandsWithin 0 to b → end_behind 0 b ≤ to
    go (Listed start len) stands = stands.1
    go (Own own) stands = omega arith
    go Nothing stands = omega arith

-- Bodies of a list that is put after another.
within_rebased : (by from to : ℕ) (body : Body) → StandsWithin from to body → StandsWithin (by + from) (by + to) (rebased by body)
within_rebased by from to (Listed start len) stands = (omega (arith, stands.0), omega (arith, stands.1))
within_rebased by from to (Own own) stands = tt
within_rebased by from to Nothing stands = tt

disjoint_rebased : (by : ℕ) (a b : Body) → AreDisjoint a b → AreDisjoint (rebased by a) (rebased by b)
disjoint_rebased by (Listed start len) (Listed from count) apart = elim apart [ inl before ↦ inl (omega (arith, before)) | inr behind ↦ inr (omega (arith, behind)) ]
disjoint_rebased by (Listed start len) (Own own) apart = tt
disjoint_rebased by (Listed start len) Nothing apart = tt
disjoint_rebased by (Own own) b apart = tt
disjoint_rebased by Nothing b apart = tt

module _ (behind by : ℕ) where
  all_within : (next from to : ℕ) (rows : List Row) → AllByRecursion (StandsWithin from to) (bodies_of rows) → AllByRecursion (StandsWithin (by + from) (by + to)) (bodies_of (moved_rows next behind by rows))
  all_within next from to [] all = tt
  all_within next from to (r ∷ rows) all = (within_rebased by from to r.body all.0, all_within (next + 1) from to rows all.1)

  all_disjoint : (next : ℕ) (b : Body) (rows : List Row) → AllByRecursion (AreDisjoint b) (bodies_of rows) → AllByRecursion (AreDisjoint (rebased by b)) (bodies_of (moved_rows next behind by rows))
  all_disjoint next b [] all = tt
  all_disjoint next b (r ∷ rows) all = (disjoint_rebased by b r.body all.0, all_disjoint (next + 1) b rows all.1)

  all_apart : (next : ℕ) (rows : List Row) → EachTwo AreDisjoint (bodies_of rows) → EachTwo AreDisjoint (bodies_of (moved_rows next behind by rows))
  all_apart next [] apart = tt
  all_apart next (r ∷ rows) apart = (all_disjoint (next + 1) r.body rows apart.0, all_apart (next + 1) rows apart.1)

  pub listed_moved : (next from to : ℕ) (rows : List Row) → AreListed from to rows → AreListed (by + from) (by + to) (moved_rows next behind by rows)
  listed_moved next from to rows are = (all_within next from to rows are.0, all_apart next rows are.1)

pub body_rebased : (list others : List Item) (body : Body) → body_items (list ++ others) (rebased (length list) body) ≡ body_items others body
body_rebased list others (Listed start len) = ap (take len) (drop-append-add list others start)
body_rebased list others (Own own) = refl
body_rebased list others Nothing = refl
