-- Items at several places that go at once.
use Rattle.std.proofs.Common.{◌≡◌, ℕ, zero, suc, ◌+◌, ◌-◌, ◌<◌, ◌≤◌, ◌==◌, Bool, true, false, List, [], ◌∷◌, ◌++◌, length, take, drop, refl, ap, sym, ◌∙◌, append-nil, append_assoc, arith, length-set, drop-set-lt}
use Rattle.std.specs.List.{SwappedAt, slice_index_or, slice_set}
use Rattle.std.proofs.lemmas.Bool.{eqb-true, eqb-false}
use Rattle.std.proofs.lemmas.List.{drop_all, take_more_set, take-set-le}
use Rattle.gitconf_sections.specs.LeavingOut.{Ascend, is_next, left_from, without_all, without_at}

-- they ascend from a place before it too
from_before : (first later : ℕ) (places : List (ℕ × ℕ)) → first ≤ later → Ascend later places → Ascend first places
from_before first later [] less a = tt
from_before first later (p ∷ places) less a = (let least = a.0 in omega (arith, less, least), a.1)

-- what is left where the one at a place goes, in the form that computes
abbrev cut : {A : Type 0} → (place : ℕ) → List A → List A
cut place xs = take place xs ++ drop (suc place) xs

-- what is left of the rest, from a place on
abbrev without_from : {A : Type 0} → (at : ℕ) → List (ℕ × ℕ) → List A → List A
without_from at [] xs = xs
without_from at (p ∷ places) xs = cut (p.1 - at) (without_from at places xs)

none_cut : {A : Type 0} (place : ℕ) → cut {A = A} place [] ≡ []
none_cut zero = refl
none_cut (suc place) = refl

none_left : {A : Type 0} (at : ℕ) (places : List (ℕ × ℕ)) → without_from {A = A} at places [] ≡ []
none_left at [] = refl
none_left at (p ∷ places) = ap (cut (p.1 - at)) (none_left at places) ∙ none_cut (p.1 - at)

-- an item before all of them stays
first_stays : {A : Type 0} (at : ℕ) (places : List (ℕ × ℕ)) (x : A) (xs : List A) → Ascend (at + 1) places → without_from at places (x ∷ xs) ≡ x ∷ without_from (at + 1) places xs
first_stays at [] x xs a = refl
first_stays at (p ∷ places) x xs a =
    let least = a.0 in
    let next : p.1 - at ≡ suc (p.1 - (at + 1)) = omega (arith, least) in
    ap (cut (p.1 - at)) (first_stays at places x xs (from_before (at + 1) (p.1 + 1) places (omega (arith, least)) a.1))
    ∙ ap (λ n. cut n (x ∷ without_from (at + 1) places xs)) next

gone : {A : Type 0} (at : ℕ) (places : List (ℕ × ℕ)) (x : A) (xs : List A) → is_next at places ≡ true → left_from at places (x ∷ xs) ≡ left_from (at + 1) (drop 1 places) xs
gone at places x xs is = rw is refl

stays : {A : Type 0} (at : ℕ) (places : List (ℕ × ℕ)) (x : A) (xs : List A) → is_next at places ≡ false → left_from at places (x ∷ xs) ≡ x ∷ left_from (at + 1) places xs
stays at places x xs is = rw is refl

-- The walk leaves what they leave from the last one on.
walk_leaves : {A : Type 0} (at : ℕ) (places : List (ℕ × ℕ)) (xs : List A) → Ascend at places → left_from at places xs ≡ without_from at places xs
walk_leaves at places [] a = sym (none_left at places)
walk_leaves at [] (x ∷ xs) a = ap (λ ys. x ∷ ys) (walk_leaves (at + 1) [] xs tt)
walk_leaves {A} at (p ∷ places) (x ∷ xs) a = go (p.1 == at) refl (walk_leaves (at + 1) places xs) (walk_leaves (at + 1) (p ∷ places) xs)
  where
    go : (b : Bool) → (p.1 == at) ≡ b → (Ascend (at + 1) places → left_from (at + 1) places xs ≡ without_from (at + 1) places xs)
        → (Ascend (at + 1) (p ∷ places) → left_from (at + 1) (p ∷ places) xs ≡ without_from (at + 1) (p ∷ places) xs)
        → left_from at (p ∷ places) (x ∷ xs) ≡ without_from at (p ∷ places) (x ∷ xs)
    go true is first later =
        let here = eqb-true p.1 at is in
        let behind : Ascend (at + 1) places = from_before (at + 1) (p.1 + 1) places (omega (arith, here)) a.1 in
        let none : p.1 - at ≡ 0 = omega (arith, here) in
        gone at (p ∷ places) x xs is ∙ first behind
        ∙ sym (ap (λ n. cut n (without_from at places (x ∷ xs))) none ∙ ap (cut 0) (first_stays at places x xs behind))
    go false is first later =
        let other = eqb-false p.1 at is in
        let least = a.0 in
        let more : at + 1 ≤ p.1 = ne_more p.1 at least other in
        stays at (p ∷ places) x xs is ∙ ap (λ ys. x ∷ ys) (later (more, a.1)) ∙ sym (first_stays at (p ∷ places) x xs (more, a.1))
      where
        ne_more : (n m : ℕ) → m ≤ n → (n ≡ m → ⊥) → m + 1 ≤ n
        ne_more n m most other = omega (arith, most, other)

from_front : {A : Type 0} (places : List (ℕ × ℕ)) (xs : List A) → without_from 0 places xs ≡ without_all places xs
from_front [] xs = refl
from_front (p ∷ places) xs =
    let least : p.1 - 0 ≡ p.1 = omega arith in
    let next : suc p.1 ≡ p.1 + 1 = omega arith in
    ap (λ n. cut n (without_from 0 places xs)) least ∙ ap (λ n. take p.1 (without_from 0 places xs) ++ drop n (without_from 0 places xs)) next
    ∙ ap (without_at p.1) (from_front places xs)

pub all_left : {A : Type 0} (places : List (ℕ × ℕ)) (xs : List A) → Ascend 0 places → left_from 0 places xs ≡ without_all places xs
all_left places xs a = walk_leaves 0 places xs a ∙ from_front places xs

-- what is at a place
here_next : {A : Type 0} (xs : List A) (at : ℕ) → at < length xs → (x : A) × (drop at xs ≡ x ∷ drop (suc at) xs) × ((d : A) → slice_index_or xs at d ≡ x)
here_next [] at less = absurd (omega (arith, less))
here_next (x ∷ xs) zero less = (x, refl, λ d. refl)
here_next (x ∷ xs) (suc at) less = here_next xs at (omega (arith, less))

here : {A : Type 0} (xs : List A) (at : ℕ) → at < length xs → (x : A) × (drop at xs ≡ x ∷ drop (at + 1) xs) × ((d : A) → slice_index_or xs at d ≡ x)
here xs at less =
    let h = here_next xs at less in
    let next : suc at ≡ at + 1 = omega arith in
    (h.0, h.1 ∙ ap (λ n. h.0 ∷ drop n xs) next, h.2)

-- A step over an item that goes, and over one that stays.
pub gone_here : {A : Type 0} (kept at : ℕ) (places : List (ℕ × ℕ)) (xs : List A) → at < length xs → is_next at places ≡ true
    → take kept xs ++ left_from (at + 1) (drop 1 places) (drop (at + 1) xs) ≡ take kept xs ++ left_from at places (drop at xs)
gone_here kept at places xs less is =
    let h = here xs at less in
    ap (λ ys. take kept xs ++ ys) (sym (ap (left_from at places) h.1 ∙ gone at places h.0 (drop (at + 1) xs) is))

pub kept_here : {A : Type 0} (kept at : ℕ) (places : List (ℕ × ℕ)) (xs ys : List A) → SwappedAt xs ys at kept → kept ≤ at → at < length xs → is_next at places ≡ false
    → take (kept + 1) ys ++ left_from (at + 1) places (drop (at + 1) ys) ≡ take kept xs ++ left_from at places (drop at xs)
kept_here {A} kept at places xs ys swapped most less is =
    (λ j. front j ++ left_from (at + 1) places (back j)) ∙ append_assoc (take kept xs) (x ∷ []) (left_from (at + 1) places (drop (at + 1) xs))
    ∙ ap (λ ys. take kept xs ++ ys) (sym (ap (left_from at places) (here xs at less).1 ∙ stays at places x (drop (at + 1) xs) is))
  where
    x : A
    x = (here xs at less).0

    other : List A
    other = slice_set xs at (slice_index_or xs kept x)

    placed : ys ≡ slice_set other kept (slice_index_or xs at x)
    placed = swapped.3 x

    long : length other ≡ length xs
    long = length-set xs at (slice_index_or xs kept x)

    front : take (kept + 1) ys ≡ take kept xs ++ x ∷ []
    front =
        ap (take (kept + 1)) placed ∙ take_more_set other kept (slice_index_or xs at x) (omega (arith, long, less, most))
        ∙ ap (λ l. l ++ slice_index_or xs at x ∷ []) (take-set-le kept xs at (slice_index_or xs kept x) most)
        ∙ ap (λ v. take kept xs ++ v ∷ []) ((here xs at less).2 x)

    back : drop (at + 1) ys ≡ drop (at + 1) xs
    back =
        ap (drop (at + 1)) placed ∙ drop-set-lt (at + 1) other kept (slice_index_or xs at x) (omega (arith, most))
        ∙ drop-set-lt (at + 1) xs at (slice_index_or xs kept x) (omega arith)

pub as_long : {A : Type 0} (kept at : ℕ) (xs ys : List A) → SwappedAt xs ys at kept → at < length xs → length ys ≡ length xs
as_long {A} kept at xs ys swapped less =
    ap (λ (l : List A). length l) (swapped.3 x) ∙ length-set (slice_set xs at (slice_index_or xs kept x)) kept (slice_index_or xs at x)
    ∙ length-set xs at (slice_index_or xs kept x)
  where
    x : A
    x = (here xs at less).0

-- the walk is at the end
pub walked : {A : Type 0} (kept at : ℕ) (left places : List (ℕ × ℕ)) (xs old : List A) → length xs ≤ at → Ascend 0 places
    → take kept xs ++ left_from at left (drop at xs) ≡ left_from 0 places old → take kept xs ≡ without_all places old
walked kept at left places xs old past a is =
    sym (append-nil (take kept xs)) ∙ ap (λ ys. take kept xs ++ left_from at left ys) (sym (drop_all at xs past)) ∙ is ∙ all_left places old a

-- if there is nothing, nothing is left
pub none_of_none : {A : Type 0} (places : List (ℕ × ℕ)) → without_all {A = A} places [] ≡ []
none_of_none places = sym (from_front places []) ∙ none_left 0 places
