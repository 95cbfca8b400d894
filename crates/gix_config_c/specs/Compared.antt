-- What two files say differently, as a list.
use Rattle.std.specs.Prelude.{◌≡◌, ◌↔◌, ℕ, Bool, true, List, map, slice_get, Option, Some, None}
use Rattle.std.specs.declared.alloc.Global.{Global}
use Rattle.std.specs.declared.vec.Vec.{Vec}
use Rattle.gix_config_c.specs.Differences.{DifferenceLiesAt}
use Rattle.gix_config_c.specs.declared.difference.Difference.{Difference}
use Rattle.gix_config_c.specs.declared.difference.DifferencePlace.{DifferencePlace}
use Rattle.gix_config_c.specs.declared.object.Object.{Object}
use Rattle.gix_config_c.specs.declared.object.Object.TheVariants.{Differences}
use Rattle.gitconf_diff.specs.Differences.{AreDifferences, Different}
use Rattle.gitconf_state.specs.Equality.{AreEqual}
use Rattle.gitconf_state.specs.State.{State}
use Rattle.gix_config_c.specs.Answers.{OfFile}
use Rattle.gix_config_c.specs.Listed.{listed_entry}

-- the difference of a list, as plain values
abbrev pub told_difference : Difference → Different
told_difference d = record { side = d.side; names = (listed_entry d.entry).names; value = (listed_entry d.entry).value }

-- these are the differences of the two files
pub record AreListed (one other : State) (differences : Vec Difference Global) : Type 0 where
  pub same : AreDifferences one.sections other.sections (map told_difference differences.items)

-- number 0 where the list has the differences of the two files; else memory ran out
pub record AreDifferencesOf (one other : State) (number : ℕ) (list : Option Object) : Type 0 where
  pub done : number ≡ 0 → (differences : Vec Difference Global) × (list ≡ Some (Differences differences)) × AreListed one other differences
  pub short : (number ≡ 0 → ⊥) → number ≡ 27

-- the same for the other file that is in a handle; 102 if none is
pub record AreDifferencesFrom (other_file : Option Object) (one : State) (number : ℕ) (list : Option Object) : Type 0 where
  pub told : OfFile other_file number (λ other. AreDifferencesOf one other number list)

-- number 0, and it is told whether the files are equal
pub record IsToldEqual (one other : State) (number : ℕ) (equal : Bool) : Type 0 where
  pub done : number ≡ 0
  pub equal_if : (equal ≡ true) ↔ AreEqual one other

-- the same for the other file that is in a handle; 102 if none is
pub record IsToldEqualFrom (other_file : Option Object) (one : State) (number : ℕ) (equal : Bool) : Type 0 where
  pub told : OfFile other_file number (λ other. IsToldEqual one other number equal)

-- number 0 if there is a difference at the index, and its parts lie there; else 100
abbrev pub IsDifferenceAt : List Difference → (index number : ℕ) → DifferencePlace → Type 0
IsDifferenceAt differences index number place =
    elim (slice_get differences index) [ None ↦ number ≡ 100 | Some difference ↦ (number ≡ 0) × DifferenceLiesAt difference place ]

-- the same for the list that is in the handle; 102 if it has no differences
abbrev pub IsDifferenceIn : Option Object → (index number : ℕ) → DifferencePlace → Type 0
IsDifferenceIn (Some (Differences differences)) index number place = IsDifferenceAt differences.items index number place
IsDifferenceIn _ index number place = number ≡ 102
