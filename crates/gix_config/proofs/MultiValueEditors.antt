-- Editors of several values that are made, and places that move up.
use Rattle.std.proofs.Common.{◌≡◌, ℕ, zero, suc, ◌+◌, ◌<◌, List, [], ◌∷◌, ◌++◌, length, map, take, drop, set, get_or, Result, Ok, Err, arith, refl, ap, sym, subst, ◌∙◌}
use Rattle.std.specs.declared.vec.Vec.{Vec}
use Rattle.gitconf_sources.specs.Key.{Key}
use Rattle.gitconf_state.specs.State.{State}
use Rattle.gitconf_lookups.specs.declared.existing.Error.{Error}
use Rattle.gitconf_lookups.specs.declared.existing.Error.TheVariants.{Memory}
use Rattle.gitconf_store.specs.Several.{moved_up}
use Rattle.gitconf_lookups.specs.ValuePlaces.{ArePlaces}
use Rattle.gitconf_store.proofs.Edits.Several.{other_memory}
use Rattle.gix_config.specs.MultiValueEditors.{AreFoundTargets, AreTargets}
use Rattle.gix_config.specs.Targeted.{Targeted}

-- the lookup's refusal
pub missed_targets : {T Z : Type 0} (shown : T → Targeted) (key : Key) (state : State) (places : List (ℕ × ℕ)) (found : Result (Vec (ℕ × ℕ) Z) Error) (refusal : Error) (result : Result T Error)
    → found ≡ Err refusal → result ≡ Err refusal → ArePlaces key state places found → AreFoundTargets shown key state places result
missed_targets {T} {Z} shown key state places found refusal result fault is told =
    subst (AreFoundTargets shown key state places) (sym is) (other_memory Z (Unit {0}) key state places refusal (subst (ArePlaces key state places) fault told))

-- out of memory for the name
pub unspelled_targets : {T Z : Type 0} (shown : T → Targeted) (key : Key) (state : State) (places : List (ℕ × ℕ)) (found : Vec (ℕ × ℕ) Z) (result : Result T Error)
    → result ≡ Err Memory → ArePlaces key state places (Ok found) → AreFoundTargets shown key state places result
unspelled_targets shown key state places found result is told = subst (AreFoundTargets shown key state places) (sym is) (told.0, told.1)

-- they were found
pub found_targets : {Z : Type 0} (key : Key) (state : State) (places : List (ℕ × ℕ)) (found : Vec (ℕ × ℕ) Z) (name : List ℕ) (targets : Targeted)
    → name ≡ key.name → targets ≡ record { key = name; places = found.items } → ArePlaces key state places (Ok found) → AreTargets key places targets
found_targets key state places found name targets same is told = subst (AreTargets key places) (sym is) (told.0, told.1, told.2, same)

-- Some elements are changed, and the next one is.
next_mapped : {A : Type 0} (f : A → A) (xs : List A) (i : ℕ) (d : A) → i < length xs
    → set (map f (take i xs) ++ drop i xs) i (f (get_or xs i d)) ≡ map f (take (suc i) xs) ++ drop (suc i) xs
next_mapped f [] i d within = absurd (omega (arith, within))
next_mapped f (x ∷ xs) zero d within = refl
next_mapped f (x ∷ xs) (suc i) d within = ap (λ ys. f x ∷ ys) (next_mapped f xs i d (omega (arith, within)))

-- which was as it is
next_unmapped : {A : Type 0} (f : A → A) (xs : List A) (i : ℕ) (d : A) → get_or (map f (take i xs) ++ drop i xs) i d ≡ get_or xs i d
next_unmapped f [] zero d = refl
next_unmapped f [] (suc i) d = refl
next_unmapped f (x ∷ xs) zero d = refl
next_unmapped f (x ∷ xs) (suc i) d = next_unmapped f xs i d

-- One more place is moved up.
pub one_moved_up : (gone : ℕ × ℕ) (all places : List (ℕ × ℕ)) (i : ℕ) (d : ℕ × ℕ) (n : ℕ) → i < length all → places ≡ map (moved_up gone) (take i all) ++ drop i all
    → n ≡ (moved_up gone (get_or places i d)).1 → set places i ((get_or places i d).0, n) ≡ map (moved_up gone) (take (i + 1) all) ++ drop (i + 1) all
one_moved_up gone all places i d n within moved told =
    (λ j. set (moved j) i ((get_or places i d).0, told j))
    ∙ ap (λ p. set (map (moved_up gone) (take i all) ++ drop i all) i (moved_up gone p)) same
    ∙ next_mapped (moved_up gone) all i d within
    ∙ ap (λ k. map (moved_up gone) (take k all) ++ drop k all) next
  where
    same : get_or places i d ≡ get_or all i d
    same = ap (λ ps. get_or ps i d) moved ∙ next_unmapped (moved_up gone) all i d

    next : suc i ≡ i + 1
    next = omega arith
