-- Where the last element of a list is that passes a test.
use Rattle.std.specs.Prelude.{◌≡◌, ℕ, Bool, true, false, List, ◌∷◌, ◌++◌, length, Option, Some, None}
use Rattle.std.specs.List.{list_any}

-- the element at the place passes, and none after it does
pub record IsLastAt {A : Type 0} (test : A → Bool) (xs : List A) (at : ℕ) : Type 0 where
  pub before : List A
  pub found : A
  pub behind : List A
  pub is : xs ≡ before ++ found ∷ behind
  pub place : length before ≡ at
  pub passes : test found ≡ true
  pub none : list_any test behind ≡ false

-- the last element that passes is at the place, or none passes
abbrev pub IsLastPlace : {A : Type 0} → (A → Bool) → List A → Option ℕ → Type 0
IsLastPlace test xs None = list_any test xs ≡ false
IsLastPlace test xs (Some at) = IsLastAt test xs at

-- the list begins with `front`, and no element after that passes
pub record IsFront {A : Type 0} (test : A → Bool) (xs front : List A) : Type 0 where
  pub behind : List A
  pub is : xs ≡ front ++ behind
  pub none : list_any test behind ≡ false
