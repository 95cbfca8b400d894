-- Entries that are left when another one is deleted.
use Rattle.std.proofs.Common.{◌≡◌, ℕ, zero, suc, ◌+◌, ◌-◌, ◌<◌, ◌≤◌, ◌==◌, Bool, true, false, nat_lt, List, [], ◌∷◌, ◌++◌, map, filter, take, drop, Option, Some, None, refl, ap, ◌∙◌, arith}
use Rattle.std.specs.Prelude.{if◌then◌else◌}
use Rattle.std.specs.List.{last_or, slice_get}
use Rattle.std.proofs.lemmas.Bool.{eqb-true, ltb-false, ltb-true}
use Rattle.gitconf_text.specs.Part.{Item}
use Rattle.gitconf_state.specs.Editors.{deleted_at}
use Rattle.gitconf_state.specs.Edits.{DeleteAt, apply}
use Rattle.gitconf_state.specs.State.{SectionState, State}
use Rattle.gitconf_store.specs.Several.{meaning_of_place, moved_up}
use Rattle.gitconf_lookups.specs.ValuePlaces.{item_meaning, meaning_at}

-- what stands before it, and behind it
stands_before : {A : Type 0} (xs : List A) (gone place : ℕ) → place < gone → slice_get (take gone xs ++ drop (suc gone) xs) place ≡ slice_get xs place
stands_before xs zero place before = absurd (omega (arith, before))
stands_before [] (suc gone) place before = refl
stands_before (x ∷ xs) (suc gone) zero before = refl
stands_before (x ∷ xs) (suc gone) (suc place) before = stands_before xs gone place (omega (arith, before))

stands_behind : {A : Type 0} (xs : List A) (gone place : ℕ) → gone ≤ place → slice_get (take gone xs ++ drop (suc gone) xs) place ≡ slice_get xs (suc place)
stands_behind [] zero place behind = refl
stands_behind [] (suc gone) place behind = refl
stands_behind (x ∷ xs) zero place behind = refl
stands_behind (x ∷ xs) (suc gone) zero behind = absurd (omega (arith, behind))
stands_behind (x ∷ xs) (suc gone) (suc place) behind = stands_behind xs gone place (omega (arith, behind))

abbrev meant : Option Item → Option (List ℕ)
meant o = elim o [ None ↦ None | Some i ↦ item_meaning i ]

left_there : (items : List Item) (gone place : ℕ) → (place ≡ gone → ⊥) → meaning_at (if nat_lt gone place then place - 1 else place) (deleted_at gone items) ≡ meaning_at place items
left_there items gone place other = go (nat_lt gone place) refl
  where
    next : gone + 1 ≡ suc gone
    next = omega arith

    same : (p : ℕ) → slice_get (take gone items ++ drop (gone + 1) items) p ≡ slice_get (take gone items ++ drop (suc gone) items) p
    same p = ap (λ n. slice_get (take gone items ++ drop n items) p) next

    before : (b : Bool) → nat_lt place gone ≡ b → place ≤ gone → place < gone
    before true is most = ltb-true place gone is
    before false is most = absurd (other (let most_too = ltb-false place gone is in omega (arith, most, most_too)))

    go : (b : Bool) → nat_lt gone place ≡ b → meaning_at (if b then place - 1 else place) (deleted_at gone items) ≡ meaning_at place items
    go true is =
        let less = ltb-true gone place is in
        let behind : gone ≤ place - 1 = omega (arith, less) in
        let again : suc (place - 1) ≡ place = omega (arith, less) in
        ap meant (same (place - 1) ∙ stands_behind items gone (place - 1) behind ∙ ap (slice_get items) again)
    go false is = ap meant (same place ∙ stands_before items gone place (before (nat_lt place gone) refl (ltb-false gone place is)))

-- a section behind the deletion
abbrev without : (gone : ℕ × ℕ) → SectionState → SectionState
without gone s =
    if s.number == gone.0 then record { number = s.number; header = s.header; meta = s.meta; items = deleted_at gone.1 s.items; held = s.held } else s

same_number : (gone : ℕ × ℕ) (s : SectionState) → (without gone s).number ≡ s.number
same_number gone s = go (s.number == gone.0)
  where
    go : (b : Bool) → (if b then record { number = s.number; header = s.header; meta = s.meta; items = deleted_at gone.1 s.items; held = s.held } else s).number ≡ s.number
    go true = refl
    go false = refl

left_in : (gone place : ℕ × ℕ) → (place ≡ gone → ⊥) → (s : SectionState) → (s.number == place.0) ≡ true
    → meaning_at (moved_up gone place).1 (without gone s).items ≡ meaning_at place.1 s.items
left_in gone place other s named = go (place.0 == gone.0) refl
  where
    there : s.number ≡ place.0
    there = eqb-true s.number place.0 named

    go : (b : Bool) → (place.0 == gone.0) ≡ b → meaning_at (moved_up gone place).1 (without gone s).items ≡ meaning_at place.1 s.items
    go true is =
        let here : (s.number == gone.0) ≡ true = ap (λ n. n == gone.0) there ∙ is in
        rw (is, here) (left_there s.items gone.1 place.1 (λ same. other (λ i. (eqb-true place.0 gone.0 is i, same i))))
    go false is =
        let elsewhere : (s.number == gone.0) ≡ false = ap (λ n. n == gone.0) there ∙ is in
        rw (is, elsewhere) refl

abbrev told : (place : ℕ) → Option SectionState → Option (List ℕ)
told place o = elim o [ None ↦ None | Some s ↦ meaning_at place s.items ]

left_last : (gone place : ℕ × ℕ) → (place ≡ gone → ⊥) → (ss : List SectionState) (old new : Option SectionState) → told (moved_up gone place).1 new ≡ told place.1 old
    → told (moved_up gone place).1 (last_or new (filter (λ s. s.number == place.0) (map (without gone) ss))) ≡ told place.1 (last_or old (filter (λ s. s.number == place.0) ss))
left_last gone place other [] old new same = same
left_last gone place other (s ∷ ss) old new same =
    go (s.number == place.0) refl (λ named. left_last gone place other ss (Some s) (Some (without gone s)) (left_in gone place other s named)) (left_last gone place other ss old new same)
  where
    go : (b : Bool) → (s.number == place.0) ≡ b
        → ((s.number == place.0) ≡ true → told (moved_up gone place).1 (last_or (Some (without gone s)) (filter (λ s. s.number == place.0) (map (without gone) ss)))
        ≡ told place.1 (last_or (Some s) (filter (λ s. s.number == place.0) ss)))
        → told (moved_up gone place).1 (last_or new (filter (λ s. s.number == place.0) (map (without gone) ss))) ≡ told place.1 (last_or old (filter (λ s. s.number == place.0) ss))
        → told (moved_up gone place).1 (last_or new (filter (λ s. s.number == place.0) (map (without gone) (s ∷ ss)))) ≡ told place.1 (last_or old (filter (λ s. s.number == place.0) (s ∷ ss)))
    go true is first later = rw (same_number gone s, is) (first is)
    go false is first later = rw (same_number gone s, is) later

pub others_left : (gone place : ℕ × ℕ) (state : State) → (place ≡ gone → ⊥)
    → meaning_of_place (apply (DeleteAt gone.0 gone.1) state) (moved_up gone place) ≡ meaning_of_place state place
others_left gone place state other =
    ap (λ (o : Option (List ℕ)). elim o as (λ _. List ℕ) [ None ↦ [] | Some text ↦ text ]) (left_last gone place other state.sections None None refl)
