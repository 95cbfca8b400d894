-- Why a section or a file that is put in is refused: for its bytes, or for numbers that are used up.
use Rattle.std.proofs.Common.{◌≡◌, ℕ, Bool, true, false, [], ◌∷◌, None, Result, Ok, Err, inl, inr, refl, ap, arith}
use Rattle.std.specs.Prelude.{◌⊎◌, ◌↔◌, ◌||◌, IfErr, IsErrOf}
use Rattle.gitconf_body.specs.Done.{IsRefusedFor, TooLarge, first_cause}
use Rattle.gitconf_body.specs.Refusals.{span_refusal}

-- Of two things that may be too large, one is if and only if it is refused by 3; otherwise memory ran out.
pub full_told : {T : Type 0} {A B : Type 0} (full more : Bool) (result : Result T ℕ) → (IsErrOf result 3 ↔ (A ⊎ B)) → (full ≡ true → A) → (A → full ≡ true) → (more ≡ true → B) → (B → more ≡ true)
    → IfErr result (λ e. (e ≡ 3) ⊎ (e ≡ 27)) → IsRefusedFor span_refusal (first_cause ((full || more, TooLarge) ∷ [])) result
full_told true more result asked full_is is_full more_is is_more known = asked.1 (inl (full_is refl))
full_told false true result asked full_is is_full more_is is_more known = asked.1 (inr (more_is refl))
full_told false false (Ok t) asked full_is is_full more_is is_more known = tt
full_told {T} {A} {B} false false (Err e) asked full_is is_full more_is is_more known = elim known [
  | inl three ↦ absurd (neither (asked.0 (ap Err three)))
  | inr out ↦ out
]
  where
    neither : (A ⊎ B) → ⊥
    neither (inl a) = let no = is_full a in cc
    neither (inr b) = let no = is_more b in cc

-- And back: what is told says which of them is.
pub told_full : {T : Type 0} {A B : Type 0} (full more : Bool) (result : Result T ℕ) → (full ≡ true → A) → (A → full ≡ true) → (more ≡ true → B) → (B → more ≡ true)
    → IsRefusedFor span_refusal (first_cause ((full || more, TooLarge) ∷ [])) result → (IsErrOf result 3 ↔ (A ⊎ B))
told_full true more result full_is is_full more_is is_more told = (λ three. inl (full_is refl), λ either. told)
told_full false true result full_is is_full more_is is_more told = (λ three. inr (more_is refl), λ either. told)
told_full {T} {A} {B} false false result full_is is_full more_is is_more told = (λ three. absurd (only result told three), λ either. absurd (neither either))
  where
    neither : (A ⊎ B) → ⊥
    neither (inl a) = let no = is_full a in cc
    neither (inr b) = let no = is_more b in cc

    only : (r : Result T ℕ) → IsRefusedFor span_refusal None r → IsErrOf r 3 → ⊥
    only (Ok t) told three = cc
    only (Err e) told three = let h : e ≡ 3 = cc in omega (arith, h, told)

pub told_known : {T : Type 0} (full : Bool) (result : Result T ℕ) → IsRefusedFor span_refusal (first_cause ((full, TooLarge) ∷ [])) result → IfErr result (λ e. (e ≡ 3) ⊎ (e ≡ 27))
told_known full (Ok t) told = tt
told_known true (Err e) told = inl (let h : e ≡ 3 = cc in h)
told_known false (Err e) told = inr told
