-- What holds of all elements of a list.
use Rattle.std.proofs.Common.{◌≡◌, ℕ, zero, suc, ◌<◌, Bool, true, false, List, [], ◌∷◌, ◌++◌, length, get_or, subst, sym, arith, append-nil}
use Rattle.std.specs.Prelude.{if◌then◌else◌, set}
use Rattle.std.specs.List.{AllByRecursion}

pub all_push : {A : Type 0} (P : A → Type 0) (xs : List A) (x : A) → AllByRecursion P xs → P x → AllByRecursion P (xs ++ x ∷ [])
all_push P [] x all h = (h, tt)
all_push P (y ∷ xs) x all h = (all.0, all_push P xs x all.1 h)

pub all_set : {A : Type 0} (P : A → Type 0) (xs : List A) (i : ℕ) (x : A) → AllByRecursion P xs → P x → AllByRecursion P (set xs i x)
all_set P [] i x all h = tt
all_set P (y ∷ xs) zero x all h = (h, all.1)
all_set P (y ∷ xs) (suc i) x all h = (all.0, all_set P xs i x all.1 h)

pub all_push_if : {A : Type 0} (P : A → Type 0) (xs : List A) (x : A) (keep : Bool) → AllByRecursion P xs → P x → AllByRecursion P (xs ++ (if keep then x ∷ [] else []))
all_push_if P xs x true all h = all_push P xs x all h
all_push_if P xs x false all h = subst (AllByRecursion P) (sym (append-nil xs)) all

pub all_at : {A : Type 0} (P : A → Type 0) (xs : List A) (i : ℕ) (d : A) → AllByRecursion P xs → i < length xs → P (get_or xs i d)
all_at P [] i d all within = absurd (omega (arith, within))
all_at P (x ∷ xs) zero d all within = all.0
all_at P (x ∷ xs) (suc i) d all within = all_at P xs i d all.1 (omega arith)

-- what holds of all holds of the first ones and of the others
pub all_parts : {A : Type 0} (P : A → Type 0) (xs ys all : List A) → xs ++ ys ≡ all → AllByRecursion P all → AllByRecursion P xs × AllByRecursion P ys
all_parts {A = A} P xs ys all is holds = go xs (rw is holds)
  where
    go : (xs : List A) → AllByRecursion P (xs ++ ys) → AllByRecursion P xs × AllByRecursion P ys
    go [] holds = (tt, holds)
    go (x ∷ xs) holds = ((holds.0, (go xs holds.1).0), (go xs holds.1).1)
