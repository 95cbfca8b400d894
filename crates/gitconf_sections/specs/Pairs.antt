-- Relations of any two elements of a list.
use Rattle.std.specs.Prelude.{List, [], ◌∷◌}
use Rattle.std.specs.List.{AllByRecursion}

-- each element has the relation to each one after it
abbrev pub EachTwo : {A : Type 0} → (R : A → A → Type 0) → List A → Type 0
EachTwo R [] = Unit {0}
EachTwo R (x ∷ xs) = AllByRecursion (R x) xs × EachTwo R xs

-- each element of one list has the relation to each one of another
abbrev pub EachToEach : {A : Type 0} → (R : A → A → Type 0) → (xs ys : List A) → Type 0
EachToEach R xs ys = AllByRecursion (λ x. AllByRecursion (R x) ys) xs
