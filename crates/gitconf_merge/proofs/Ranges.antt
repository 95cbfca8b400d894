-- What stands among sorted differences at a key, of one of the files.
use Rattle.std.proofs.Common.{◌≡◌, ℕ, ◌+◌, ◌-◌, ◌<◌, ◌≤◌, ◌⊎◌, inl, inr, Bool, true, false, List, [], ◌∷◌, map, length, get_or, zero, suc, take, drop, refl, sym, ap, ◌∙◌, arith}
use Rattle.std.specs.Prelude.{filter}
use Rattle.std.specs.Cmp.{IsTotalOrder, both_tied, nat_cmp_total, nat_eq_equiv, on_total, then_total, unsigned_ties}
use Rattle.std.specs.List.Sorted.{IsNonDecreasingBy, IsPartitionPoint, IsPartitionedBy, IsSorted, IsSortedBy}
use Rattle.std.specs.declared.cmp.Ordering.{Ordering}
use Rattle.std.specs.declared.cmp.Ordering.TheVariants.{Less, Equal, Greater}
use Rattle.std.specs.Ordering.{is_eq, is_le, is_lt, nat_cmp, ordering_index, ordering_then}
use Rattle.std.proofs.lemmas.Bool.{cases_lt}
use Rattle.std.proofs.lemmas.List.{get_or-map}
use Rattle.std.proofs.lemmas.List.Sorted.{searchable_from_sorted}
use Rattle.gitconf_diff.specs.PlainSettings.{Names, names_cmp, rank}
use Rattle.gitconf_diff.specs.Differences.{different_cmp, different_of}
use Rattle.gitconf_diff.specs.declared.difference.Difference.{Difference}
use Rattle.gitconf_diff.specs.declared.setting.Side.{Side}
use Rattle.gitconf_diff.proofs.Orders.{names_tied, names_total, same_equiv}
use Rattle.gitconf_merge.specs.Unions.{is_of}
use Rattle.gitconf_merge.proofs.Searches.{length_map}

module _ {X : Type 0} (p : X → Bool) where
  -- where no element passes, nothing is left
  none_pass : (xs : List X) → ((k : ℕ) (d : X) → k < length xs → p (get_or xs k d) ≡ false) → filter p xs ≡ []
  none_pass [] fails = refl
  none_pass (x ∷ xs) fails =
      let here : p x ≡ false = fails 0 x (omega arith) in
      rw here (none_pass xs (λ k d less. fails (suc k) d (omega arith)))

  -- where so many from a place on pass, and no others, they are what is left
  pub in_range : (xs : List X) (i n : ℕ) → i + n ≤ length xs
      → ((k : ℕ) (d : X) → k < i → p (get_or xs k d) ≡ false)
      → ((k : ℕ) (d : X) → i ≤ k → k < i + n → p (get_or xs k d) ≡ true)
      → ((k : ℕ) (d : X) → i + n ≤ k → k < length xs → p (get_or xs k d) ≡ false)
      → filter p xs ≡ take n (drop i xs)
  in_range [] zero zero within below inside behind = refl
  in_range [] zero (suc n) within below inside behind = absurd (omega arith)
  in_range [] (suc i) n within below inside behind = absurd (omega arith)
  in_range (x ∷ xs) zero zero within below inside behind = none_pass (x ∷ xs) (λ k d less. behind k d (omega arith) less)
  in_range (x ∷ xs) zero (suc n) within below inside behind =
      let here : p x ≡ true = inside 0 x (omega arith) (omega arith) in
      rw here (ap (λ ys. x ∷ ys) (in_range xs zero n (omega arith) (λ k d less. absurd (omega arith))
      (λ k d low less. inside (suc k) d (omega arith) (omega arith)) (λ k d low less. behind (suc k) d (omega arith) (omega arith))))
  in_range (x ∷ xs) (suc i) n within below inside behind =
      let here : p x ≡ false = below 0 x (omega arith) in
      rw here (in_range xs i n (omega arith) (λ k d less. below (suc k) d (omega arith))
      (λ k d low less. inside (suc k) d (omega arith) (omega arith)) (λ k d low less. behind (suc k) d (omega arith) (omega arith)))

map_range : {A B : Type 0} (f : A → B) (i n : ℕ) (xs : List A) → map f (take n (drop i xs)) ≡ take n (drop i (map f xs))
map_range f zero zero xs = refl
map_range f zero (suc n) [] = refl
map_range f zero (suc n) (x ∷ xs) = ap (λ ys. f x ∷ ys) (map_range f zero n xs)
map_range f (suc i) zero [] = refl
map_range f (suc i) (suc n) [] = refl
map_range f (suc i) n (x ∷ xs) = map_range f i n xs

filter_map : {A B : Type 0} (f : A → B) (p : B → Bool) (xs : List A) → filter p (map f xs) ≡ map f (filter (λ x. p (f x)) xs)
filter_map f p [] = refl
filter_map f p (x ∷ xs) = go (p (f x)) refl (filter_map f p xs)
  where
    go : (b : Bool) → p (f x) ≡ b → filter p (map f xs) ≡ map f (filter (λ y. p (f y)) xs) → filter p (f x ∷ map f xs) ≡ map f (filter (λ y. p (f y)) (x ∷ xs))
    go true is rest = rw is (ap (λ ys. f x ∷ ys) rest)
    go false is rest = rw is rest

lower_lt : (o q : Ordering) → ordering_index o ≤ ordering_index q → is_lt q ≡ true → is_lt o ≡ true
lower_lt Less q low less = refl
lower_lt Equal Less low less = absurd (omega arith)
lower_lt Equal Equal low less = less
lower_lt Equal Greater low less = less
lower_lt Greater Less low less = absurd (omega arith)
lower_lt Greater Equal low less = less
lower_lt Greater Greater low less = less

lower_le : (o q : Ordering) → ordering_index o ≤ ordering_index q → is_le q ≡ true → is_le o ≡ true
lower_le Less q low least = refl
lower_le Equal q low least = refl
lower_le Greater Less low least = absurd (omega arith)
lower_le Greater Equal low least = absurd (omega arith)
lower_le Greater Greater low least = least

not_both : (o : Ordering) → is_lt o ≡ true → is_le o ≡ false → ⊥
not_both Less less more = absurd (cc)
not_both Equal less more = absurd (cc)
not_both Greater less more = absurd (cc)

less_unequal : (o : Ordering) → is_lt o ≡ true → is_eq o ≡ false
less_unequal Less less = refl
less_unequal Equal less = absurd (cc)
less_unequal Greater less = absurd (cc)

more_unequal : (o : Ordering) → is_le o ≡ false → is_eq o ≡ false
more_unequal Less more = absurd (cc)
more_unequal Equal more = absurd (cc)
more_unequal Greater more = refl

between_equal : (o : Ordering) → is_lt o ≡ false → is_le o ≡ true → is_eq o ≡ true
between_equal Less less least = absurd (cc)
between_equal Equal less least = refl
between_equal Greater less least = absurd (cc)

-- where differences stand: their names, and then the file
abbrev pub Place : Type 0
Place = Names × Side

abbrev pub place_of : Difference → Place
place_of d = ((different_of d).names, d.side)

abbrev pub place_cmp : Place → Place → Ordering
place_cmp p q = ordering_then (names_cmp p.0 q.0) (nat_cmp (rank p.1) (rank q.1))

place_total : IsTotalOrder place_cmp
place_total = then_total (on_total (λ (p : Place). p.0) names_total) (on_total (λ (p : Place). rank p.1) nat_cmp_total)

tied : (place : Place) (d : Difference) → is_of place.0 place.1 (different_of d) ≡ is_eq (place_cmp (place_of d) place)
tied place d =
    both_tied _ _ (names_cmp (different_of d).names place.0) (nat_cmp (rank d.side) (rank place.1))
    (same_equiv.symm place.0 (different_of d).names ∙ names_tied (different_of d).names place.0)
    (nat_eq_equiv.symm (rank place.1) (rank d.side) ∙ unsigned_ties (rank d.side) (rank place.1))

module _ (differences : List Difference) (sorted : IsSorted different_cmp (map different_of differences)) (place : Place) where
  in_order : IsSortedBy (λ a b. is_lt (place_cmp (place_of a) (place_of b))) differences
  in_order k d low less =
      let within : k + 1 < length (map different_of differences) = rw (length_map different_of differences) less in
      let here : k < length differences = omega arith in
      sym (λ i. is_lt (different_cmp (get_or-map different_of differences (k + 1) d (different_of d) less i) (get_or-map different_of differences k d (different_of d) here i)))
      ∙ sorted k (different_of d) low within

  rises : IsNonDecreasingBy (λ d. ordering_index (place_cmp (place_of d) place)) differences
  rises = searchable_from_sorted place_total place_of differences place in_order

  pub parted_at_first : IsPartitionedBy (λ d. is_lt (place_cmp (place_of d) place)) differences
  parted_at_first i j d le less = lower_lt _ _ (rises i j d le less)

  pub parted_behind : IsPartitionedBy (λ d. is_le (place_cmp (place_of d) place)) differences
  parted_behind i j d le less = lower_le _ _ (rises i j d le less)

-- where those of an earlier place end, and where those of a later one begin
abbrev pub IsFirst : List Difference → Place → ℕ → Type 0
IsFirst differences place n = IsPartitionPoint (λ d. is_lt (place_cmp (place_of d) place) ≡ true) (λ d. is_lt (place_cmp (place_of d) place) ≡ false) differences n

abbrev pub IsEnd : List Difference → Place → ℕ → Type 0
IsEnd differences place n = IsPartitionPoint (λ d. is_le (place_cmp (place_of d) place) ≡ true) (λ d. is_le (place_cmp (place_of d) place) ≡ false) differences n

module _ (differences : List Difference) (place : Place) (first end : ℕ) (least : IsFirst differences place first) (most : IsEnd differences place end)
    (first_within : first ≤ length differences) (end_within : end ≤ length differences) where
  pub are_ordered : first ≤ end
  are_ordered = go (cases_lt end first)
    where
      go : (end < first) ⊎ (first ≤ end) → first ≤ end
      go (inr le) = le
      go (inl more) = absurd (one_of differences (omega arith) (λ d. not_both _ (least.0 end d (omega arith) more) (most.1 end d (omega arith) (omega arith))))
        where
          one_of : (xs : List Difference) → 0 < length xs → ((d : Difference) → ⊥) → ⊥
          one_of [] less none = absurd (omega arith)
          one_of (d ∷ xs) less none = none d

  pub said : map different_of (take (end - first) (drop first differences)) ≡ filter (is_of place.0 place.1) (map different_of differences)
  said =
      let le = are_ordered in
      ap (map different_of) (sym (in_range (λ d. is_of place.0 place.1 (different_of d)) differences first (end - first) (omega arith)
      (λ k d less. tied place (get_or differences k d) ∙ less_unequal _ (least.0 k d (omega arith) less))
      (λ k d low less. tied place (get_or differences k d) ∙ between_equal _ (least.1 k d low (omega arith)) (most.0 k d (omega arith) (omega arith)))
      (λ k d low less. tied place (get_or differences k d) ∙ more_unequal _ (most.1 k d (omega arith) less))))
      ∙ sym (filter_map different_of (is_of place.0 place.1) differences)
