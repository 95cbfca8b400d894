-- Items at several places, removed at once.
use Rattle.std.specs.Prelude.{ℕ, ◌+◌, ◌≤◌, ◌==◌, Bool, false, if◌then◌else◌, List, [], ◌∷◌, ◌++◌, take, drop}

-- The places ascend, and the first one is not below `first`.
abbrev pub Ascend : (first : ℕ) → List (ℕ × ℕ) → Type 0
Ascend first [] = Unit {0}
Ascend first (p ∷ places) = (first ≤ p.1) × Ascend (p.1 + 1) places

-- what is left when the element at a place is removed
abbrev pub without_at : {A : Type 0} → (place : ℕ) → List A → List A
without_at place xs = take place xs ++ drop (place + 1) xs

-- what is left when the elements at these places are removed, the last one first
abbrev pub without_all : {A : Type 0} → List (ℕ × ℕ) → List A → List A
without_all [] xs = xs
without_all (p ∷ places) xs = without_at p.1 (without_all places xs)

-- this place is the first of them
abbrev pub is_next : (at : ℕ) → List (ℕ × ℕ) → Bool
is_next at [] = false
is_next at (p ∷ places) = p.1 == at

-- what is left, as a walk from the front finds it that is at place `at`
abbrev pub left_from : {A : Type 0} → (at : ℕ) → List (ℕ × ℕ) → List A → List A
left_from at places [] = []
left_from at places (x ∷ xs) = if is_next at places then left_from (at + 1) (drop 1 places) xs else x ∷ left_from (at + 1) places xs
