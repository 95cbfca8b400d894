-- What a binary search finds among differences that are sorted.
use Rattle.std.proofs.Common.{◌≡◌, ℕ, ◌+◌, ◌<◌, ◌≤◌, ◌⊎◌, inl, inr, Bool, false, ◌||◌, List, [], ◌∷◌, map, length, get_or, Result, Ok, Err, suc, refl, sym, ap, ◌∙◌, arith}
use Rattle.std.specs.List.{list_any}
use Rattle.std.specs.List.Sorted.{IsBinarySearchResult, IsPartitionPoint, IsSearchInRange, IsSorted, IsSortedBy}
use Rattle.std.specs.Result.{is_ok}
use Rattle.std.specs.declared.cmp.Ordering.{Ordering}
use Rattle.std.specs.declared.cmp.Ordering.TheVariants.{Less, Equal, Greater}
use Rattle.std.specs.Ordering.{is_eq, is_lt, ordering_then}
use Rattle.std.proofs.lemmas.Bool.{cases_lt}
use Rattle.std.proofs.lemmas.List.{get_or-map}
use Rattle.std.proofs.lemmas.List.Folds.{list_any_at, list_any_none}
use Rattle.std.proofs.lemmas.List.Sorted.{searchable_from_sorted}
use Rattle.gitconf_diff.specs.PlainSettings.{Names, names_cmp, same_names}
use Rattle.gitconf_diff.specs.Differences.{different_cmp, different_of}
use Rattle.gitconf_diff.specs.declared.difference.Difference.{Difference}
use Rattle.gitconf_diff.proofs.Orders.{names_tied, names_total, same_equiv}
use Rattle.gitconf_merge.specs.Keys.{is_among}

any_map : {A B : Type 0} (f : A → B) (p : B → Bool) (xs : List A) → list_any p (map f xs) ≡ list_any (λ x. p (f x)) xs
any_map f p [] = refl
any_map f p (x ∷ xs) = ap (λ b. p (f x) || b) (any_map f p xs)

pub length_map : {A B : Type 0} (f : A → B) (xs : List A) → length (map f xs) ≡ length xs
length_map f [] = refl
length_map f (x ∷ xs) = ap suc (length_map f xs)

pub not_less : (o p : Ordering) → is_lt (ordering_then o p) ≡ false → is_lt o ≡ false
not_less Less p not = not
not_less Equal p not = refl
not_less Greater p not = refl

module _ {X : Type 0} (key : X → Names) (names : Names) where
  tied : (x : X) → same_names names (key x) ≡ is_eq (names_cmp (key x) names)
  tied x = same_equiv.symm names (key x) ∙ names_tied (key x) names

  searched : (xs : List X) → IsSortedBy (λ a b. is_lt (names_cmp (key a) (key b))) xs → (r : Result ℕ ℕ) → IsSearchInRange r (length xs)
      → IsBinarySearchResult (λ x. names_cmp (key x) names) xs r → is_ok r ≡ list_any (λ x. same_names names (key x)) xs
  searched [] sorted (Ok i) within at = absurd (omega arith)
  searched (x ∷ xs) sorted (Ok i) within at =
      sym (list_any_at (λ y. same_names names (key y)) (x ∷ xs) i x within (tied (get_or (x ∷ xs) i x) ∙ ap is_eq (at x)))
  searched xs sorted (Err i) within parted =
      let parts = parted (searchable_from_sorted names_total key xs names sorted) in
      sym (list_any_none (λ y. same_names names (key y)) xs (λ k d less. tied (get_or xs k d) ∙ go k d less (cases_lt k i) parts))
    where
      go : (k : ℕ) (d : X) → k < length xs → (k < i) ⊎ (i ≤ k) → IsPartitionPoint (λ y. names_cmp (key y) names ≡ Less) (λ y. names_cmp (key y) names ≡ Greater) xs i
          → is_eq (names_cmp (key (get_or xs k d)) names) ≡ false
      go k d less (inl low) parts = ap is_eq (parts.0 k d (omega arith) low)
      go k d less (inr high) parts = ap is_eq (parts.1 k d high less)

sorted_keys : (differences : List Difference) → IsSorted different_cmp (map different_of differences) → IsSortedBy (λ a b. is_lt (names_cmp (different_of a).names (different_of b).names)) differences
sorted_keys differences sorted k d low less =
    let within : k + 1 < length (map different_of differences) = rw (length_map different_of differences) less in
    let here : k < length differences = omega arith in
    not_less (names_cmp (different_of (get_or differences (k + 1) d)).names (different_of (get_or differences k d)).names) _
    (sym (λ i. is_lt (different_cmp (get_or-map different_of differences (k + 1) d (different_of d) less i) (get_or-map different_of differences k d (different_of d) here i)))
    ∙ sorted k (different_of d) low within)

pub found : (differences : List Difference) (names : Names) → IsSorted different_cmp (map different_of differences) → (r : Result ℕ ℕ) → IsSearchInRange r (length differences)
    → IsBinarySearchResult (λ d. names_cmp (different_of d).names names) differences r → is_ok r ≡ is_among names (map different_of differences)
found differences names sorted r within at =
    searched (λ d. (different_of d).names) names differences (sorted_keys differences sorted) r within at
    ∙ sym (any_map different_of (λ d. same_names names d.names) differences)
