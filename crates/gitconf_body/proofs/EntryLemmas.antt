-- Items that hold of a body, and its last entry of a key.
use Rattle.std.proofs.Common.{ℕ, Bool, List, [], ◌∷◌, ◌++◌, map, ap, ◌∙◌}
use Rattle.std.specs.List.{AllByRecursion}
use Rattle.std.proofs.lemmas.List.{map-append, length-map}
use Rattle.gitconf_body.specs.Places.{IsLastAt}
use Rattle.gitconf_body.proofs.Places.{any_shown}

-- what holds of two lists holds of both
pub all_both : {A : Type 0} (P : A → Type 0) (xs ys : List A) → AllByRecursion P xs → AllByRecursion P ys → AllByRecursion P (xs ++ ys)
all_both P [] ys first second = second
all_both P (x ∷ xs) ys first second = (first.0, all_both P xs ys first.1 second)

-- what the last entry of the key is, in the bytes
abbrev pub last_shown : {A B : Type 0} (test : B → Bool) (f : A → B) (xs : List A) (at : ℕ) → IsLastAt (λ x. test (f x)) xs at → IsLastAt test (map f xs) at
last_shown test f xs at l = record {
  before = map f l.before;
  found = f l.found;
  behind = map f l.behind;
  is = ap (map f) l.is ∙ map-append f l.before (l.found ∷ l.behind);
  place = length-map l.before f ∙ l.place;
  passes = l.passes;
  none = any_shown test f l.behind ∙ l.none;
}
