-- The keys of conflicts that are found are those of the merge, in order.
use Rattle.std.proofs.Common.{◌≡◌, Bool, true, false, not, ◌&&◌, ◌||◌, List, [], ◌∷◌, zero, suc, refl, ap, ◌∙◌, arith, add-one}
use Rattle.std.specs.Prelude.{filter}
use Rattle.std.specs.List.{AllByRecursion, list_any}
use Rattle.std.specs.List.Sorted.{IsSorted, IsSortedBy}
use Rattle.std.specs.Option.{is_some}
use Rattle.std.specs.Ordering.{is_lt}
use Rattle.std.proofs.lemmas.List.Elements.{recursion_from_All}
use Rattle.std.proofs.lemmas.List.Sorted.{ranks_by, sorted_far}
use Rattle.gitconf_diff.specs.PlainSettings.{Names, names_cmp, same_names}
use Rattle.gitconf_diff.specs.Differences.{Answers, Different, answers_at, different_cmp, names_at, same_answers}
use Rattle.gitconf_diff.proofs.Orders.{names_total}
use Rattle.gitconf_state.specs.State.{SectionState}
use Rattle.gitconf_merge.specs.Keys.{is_among}
use Rattle.gitconf_merge.specs.Changes.{PlainChanges, AreChanges, is_conflict}
use Rattle.gitconf_merge.specs.Conflicts.{AreConflicts, goes_on, keys_of}
use Rattle.gitconf_merge.specs.Merging.{merged}
use Rattle.gitconf_merge.proofs.Among.{among, one_names}
use Rattle.gitconf_merge.proofs.Searches.{not_less}

-- a name is among the keys of differences exactly if it is among them
pub key_among : (names : Names) (ds : List Different) → list_any (λ ns. same_names names ns) (keys_of ds) ≡ is_among names ds
key_among names [] = refl
key_among names (d ∷ []) = refl
key_among names (d ∷ e ∷ ds) = go (same_names d.names e.names) refl (key_among names (e ∷ ds))
  where
    go : (b : Bool) → same_names d.names e.names ≡ b → list_any (λ ns. same_names names ns) (keys_of (e ∷ ds)) ≡ is_among names (e ∷ ds)
        → list_any (λ ns. same_names names ns) (keys_of (d ∷ e ∷ ds)) ≡ is_among names (d ∷ e ∷ ds)
    go true is rest = rw is (rest ∙ doubled (same_names names d.names) (same_names names e.names) (is_among names ds) (ap (same_names names) (one_names d.names e.names is)))
      where
        doubled : (x y z : Bool) → x ≡ y → (y || z) ≡ (x || (y || z))
        doubled true true z e = refl
        doubled true false z e = absurd (cc)
        doubled false y z e = refl
    go false is rest = rw is (ap (λ b. same_names names d.names || b) rest)

-- a name is among those that pass a test exactly if it passes and is among all
among_passing : (test : Names → Bool) (names : Names) (keys : List Names) → list_any (λ ns. same_names names ns) (filter test keys) ≡ (test names && list_any (λ ns. same_names names ns) keys)
among_passing test names [] = go (test names)
  where
    go : (b : Bool) → false ≡ (b && false)
    go true = refl
    go false = refl
among_passing test names (k ∷ keys) = go (test k) refl (same_names names k) refl (test names) refl (among_passing test names keys)
  where
    go : (b : Bool) → test k ≡ b → (same : Bool) → same_names names k ≡ same → (t : Bool) → test names ≡ t
        → list_any (λ ns. same_names names ns) (filter test keys) ≡ (test names && list_any (λ ns. same_names names ns) keys)
        → list_any (λ ns. same_names names ns) (filter test (k ∷ keys)) ≡ (test names && (same_names names k || list_any (λ ns. same_names names ns) keys))
    go true is true same true so rest = rw (is, same, so) refl
    go true is true same false so rest = absurd (let e : test names ≡ test k = ap test (one_names names k same) in cc (e, is, so))
    go true is false same t so rest = rw (is, same) rest
    go false is true same true so rest = absurd (let e : test names ≡ test k = ap test (one_names names k same) in cc (e, is, so))
    go false is true same false so rest = rw (is, same, so) (rw so at rest)
    go false is false same t so rest = rw (is, same) rest

-- keys that ascend
abbrev Ascend : List Names → Type 0
Ascend [] = Unit {0}
Ascend (k ∷ keys) = AllByRecursion (λ n. is_lt (names_cmp n k) ≡ false) keys × Ascend keys

all_kept : (P : Names → Type 0) (test : Names → Bool) (keys : List Names) → AllByRecursion P keys → AllByRecursion P (filter test keys)
all_kept P test [] all = tt
all_kept P test (k ∷ keys) all = go (test k) refl (all_kept P test keys all.1)
  where
    go : (b : Bool) → test k ≡ b → AllByRecursion P (filter test keys) → AllByRecursion P (filter test (k ∷ keys))
    go true is rest = rw is (all.0, rest)
    go false is rest = rw is rest

ascend_kept : (test : Names → Bool) (keys : List Names) → Ascend keys → Ascend (filter test keys)
ascend_kept test [] up = tt
ascend_kept test (k ∷ keys) up = go (test k) refl (ascend_kept test keys up.1)
  where
    go : (b : Bool) → test k ≡ b → Ascend (filter test keys) → Ascend (filter test (k ∷ keys))
    go true is rest = rw is (all_kept (λ n. is_lt (names_cmp n k) ≡ false) test keys up.0, rest)
    go false is rest = rw is rest

all_keys : (P : Names → Type 0) (ds : List Different) → AllByRecursion (λ (d : Different). P d.names) ds → AllByRecursion P (keys_of ds)
all_keys P [] all = tt
all_keys P (d ∷ ds) all = go (goes_on d.names ds) refl (all_keys P ds all.1)
  where
    go : (b : Bool) → goes_on d.names ds ≡ b → AllByRecursion P (keys_of ds) → AllByRecursion P (keys_of (d ∷ ds))
    go true is rest = rw is rest
    go false is rest = rw is (all.0, rest)

-- the key of one is before that of another
abbrev before : Different → Different → Bool
before c d = is_lt (names_cmp c.names d.names)

-- differences whose keys ascend
abbrev Ascending : List Different → Type 0
Ascending [] = Unit {0}
Ascending (d ∷ ds) = AllByRecursion (λ (c : Different). is_lt (names_cmp c.names d.names) ≡ false) ds × Ascending ds

behind : (d : Different) (ds : List Different) → IsSortedBy before (d ∷ ds) → IsSortedBy before ds
behind d ds sorted k e low less = rw add-one (rw add-one at (sorted (suc k) e (omega arith) (omega arith)))

ascending : (ds : List Different) → IsSortedBy before ds → Ascending ds
ascending [] sorted = tt
ascending (d ∷ ds) sorted = (
  recursion_from_All (λ (c : Different). is_lt (names_cmp c.names d.names) ≡ false) ds
      (λ k e less. sorted_far before (ranks_by names_total (λ (c : Different). c.names)) (d ∷ ds) sorted 0 (suc k) e (omega arith) (omega arith)),
  ascending ds (behind d ds sorted),
)

keys_ascend : (ds : List Different) → Ascending ds → Ascend (keys_of ds)
keys_ascend [] up = tt
keys_ascend (d ∷ ds) up = go (goes_on d.names ds) refl (keys_ascend ds up.1)
  where
    go : (b : Bool) → goes_on d.names ds ≡ b → Ascend (keys_of ds) → Ascend (keys_of (d ∷ ds))
    go true is rest = rw is rest
    go false is rest = rw is (all_keys (λ n. is_lt (names_cmp n d.names) ≡ false) ds up.0, rest)

are_sorted : (keys : List Names) → Ascend keys → IsSorted names_cmp keys
are_sorted [] up k d low less = absurd (omega arith)
are_sorted (n ∷ []) up k d low less = absurd (omega arith)
are_sorted (n ∷ m ∷ keys) up zero d low less = up.0.0
are_sorted (n ∷ m ∷ keys) up (suc k) d low less = rw add-one (rw add-one at (are_sorted (m ∷ keys) up.1 k d (omega arith) (omega arith)))

by_names : (ds : List Different) → IsSorted different_cmp ds → IsSortedBy before ds
by_names ds sorted k d low less = not_less _ _ (sorted k d low less)

-- a conflict by what three files say
by_sameness : (b o t : Answers) (x y z : Bool) → same_answers b o ≡ x → same_answers b t ≡ y → same_answers o t ≡ z
    → ((not (same_answers b t) && (not (same_answers b o) && not (same_answers o t))) && not (same_answers b o)) ≡ not (is_some (merged b o t))
by_sameness b o t true true z ours theirs between = rw (ours, theirs) refl
by_sameness b o t true false z ours theirs between = rw (ours, theirs) refl
by_sameness b o t false true z ours theirs between = rw (ours, theirs) refl
by_sameness b o t false false true ours theirs between = rw (ours, theirs, between) refl
by_sameness b o t false false false ours theirs between = rw (ours, theirs, between) refl

pub are_conflicts : (base ours theirs : List SectionState) (c : PlainChanges) → AreChanges base ours theirs c → AreConflicts base ours theirs (filter (is_conflict c) (keys_of c.ours))
are_conflicts base ours theirs c are = record {
  exact = λ key.
      let b = answers_at key base in
      let o = answers_at key ours in
      let t = answers_at key theirs in
      among_passing (is_conflict c) (names_at key) (keys_of c.ours)
      ∙ (λ i. (among base theirs c.theirs are.theirs_are key i && (among base ours c.ours are.ours_are key i && among ours theirs c.between are.between_are key i)) && (key_among (names_at key) c.ours ∙ among base ours c.ours are.ours_are key) i)
      ∙ by_sameness b o t (same_answers b o) (same_answers b t) (same_answers o t) refl refl refl;
  sorted = are_sorted (filter (is_conflict c) (keys_of c.ours)) (ascend_kept (is_conflict c) (keys_of c.ours) (keys_ascend c.ours (ascending c.ours (by_names c.ours are.ours_are.sorted))));
}
