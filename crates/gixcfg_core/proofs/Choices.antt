-- Which of its two parts a choice is.
use Rattle.std.proofs.Common.{◌≡◌, Bool, true, false, refl}
use Rattle.std.specs.Prelude.{if◌then◌else◌}

pub false_from : (v : Bool) → ¬ (v ≡ true) → v ≡ false
false_from true h = absurd (h refl)
false_from false h = refl

pub chosen : {A : Type 0} (v : Bool) (x y : A) → v ≡ true → (if v then x else y) ≡ x
chosen v x y e = rw e refl

pub left_out : {A : Type 0} (v : Bool) (x y : A) → v ≡ false → (if v then x else y) ≡ y
left_out v x y e = rw e refl
