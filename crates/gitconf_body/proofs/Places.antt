-- The last element that passes a test, looked for from the end.
use Rattle.std.proofs.Common.{◌≡◌, ℕ, Bool, true, false, List, [], ◌∷◌, ◌++◌, length, map, get_or, slice_set, Option, Some, None, refl, ap, sym, ◌∙◌, append-nil, append_assoc}
use Rattle.std.specs.Prelude.{◌||◌}
use Rattle.std.specs.List.{list_any}
use Rattle.std.specs.Option.{is_some}
use Rattle.gitconf_body.specs.Places.{IsLastAt, IsLastPlace, IsFront}

pub front_all : {A : Type 0} (test : A → Bool) (xs : List A) → IsFront test xs xs
front_all test xs = record { behind = []; is = sym (append-nil xs); none = refl }

pub front_less : {A : Type 0} (test : A → Bool) (xs front before : List A) (x : A) → IsFront test xs front → front ≡ before ++ x ∷ [] → test x ≡ false → IsFront test xs before
front_less test xs front before x f is fails =
    record { behind = x ∷ f.behind; is = f.is ∙ ap (λ t. t ++ f.behind) is ∙ append_assoc before (x ∷ []) f.behind; none = rw fails f.none }

pub front_last : {A : Type 0} (test : A → Bool) (xs front before : List A) (x : A) → IsFront test xs front → front ≡ before ++ x ∷ [] → test x ≡ true → IsLastAt test xs (length before)
front_last test xs front before x f is passes = record {
  before = before;
  found = x;
  behind = f.behind;
  is = f.is ∙ ap (λ t. t ++ f.behind) is ∙ append_assoc before (x ∷ []) f.behind;
  place = refl;
  passes = passes;
  none = f.none;
}

pub front_none : {A : Type 0} (test : A → Bool) (xs : List A) → IsFront test xs [] → list_any test xs ≡ false
front_none test xs f = ap (list_any test) f.is ∙ f.none

-- the element there, and the list with another one there
pub get_at : {A : Type 0} (before : List A) (x : A) (behind : List A) (d : A) → get_or (before ++ x ∷ behind) (length before) d ≡ x
get_at [] x behind d = refl
get_at (y ∷ before) x behind d = get_at before x behind d

pub set_at : {A : Type 0} (before : List A) (x y : A) (behind : List A) → slice_set (before ++ x ∷ behind) (length before) y ≡ before ++ y ∷ behind
set_at [] x y behind = refl
set_at (z ∷ before) x y behind = ap (λ t. z ∷ t) (set_at before x y behind)

pub found_at : {A : Type 0} (test : A → Bool) (xs : List A) (at : ℕ) (x : A) (l : IsLastAt test xs at) → x ≡ get_or xs at x → x ≡ l.found
found_at test xs at x l here =
    here ∙ ap (λ ys. get_or ys at x) l.is ∙ ap (λ n. get_or (l.before ++ l.found ∷ l.behind) n x) (sym l.place) ∙ get_at l.before l.found l.behind x

-- none passes where no place was found
pub none_found : {A : Type 0} (test : A → Bool) (xs : List A) (place : Option ℕ) → IsLastPlace test xs place → is_some place ≡ false → list_any test xs ≡ false
none_found test xs None l none = l
none_found test xs (Some at) l none = absurd (cc)

-- a test of what elements stand for
pub any_shown : {A B : Type 0} (test : B → Bool) (f : A → B) (xs : List A) → list_any test (map f xs) ≡ list_any (λ x. test (f x)) xs
any_shown test f [] = refl
any_shown test f (x ∷ xs) = ap (λ b. test (f x) || b) (any_shown test f xs)

pub ruleset fronts = (front_all, front_less, front_last, front_none)
