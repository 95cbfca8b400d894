-- Why a call is refused, from what is known of the buffer.
use Rattle.std.proofs.Common.{◌≡◌, ◌⊎◌, ◌+◌, ◌^◌, ℕ, Bool, true, false, not, List, [], ◌∷◌, Result, Ok, Err, inl, inr, refl, ap, sym, subst, ◌∙◌}
use Rattle.std.proofs.lemmas.Bool.{leb-true, le-leb}
use Rattle.gitconf_text.specs.Names.{is_value_name}
use Rattle.gitconf_body.specs.Done.{Cause, InvalidKey, IsRefusedFor, OutOfMemory, TooLarge, first_cause, is_full, key_causes, room_causes}
use Rattle.gitconf_body.specs.Growth.{UsedGrows}

-- for so many bytes
pub room_ok : {T U E : Type 0} (refusal : Cause → E) (t : T) (u : U) (used new count : ℕ) → UsedGrows (Ok t) count used new → IsRefusedFor refusal (first_cause (room_causes used count)) (Ok u)
room_ok {U = U} {E = E} refusal t u used new count grows = go (is_full used count) refl
  where
    go : (b : Bool) → is_full used count ≡ b → IsRefusedFor {T = U} {E = E} refusal (first_cause ((b, TooLarge) ∷ [])) (Ok u)
    go true is = absurd (let no = grows.refused (leb-true (2 ^ 32) (used + count) is) in cc)
    go false is = tt

pub room_err : {T E : Type 0} (U : Type 0) (refusal : Cause → E) (n : ℕ) (e : E) (used new count : ℕ) → UsedGrows {T = T} (Err n) count used new → (n ≡ 3 → e ≡ refusal TooLarge) → (n ≡ 27 → e ≡ refusal OutOfMemory)
    → IsRefusedFor {T = U} refusal (first_cause (room_causes used count)) (Err e)
room_err {T} {E} U refusal n e used new count grows large memory = go (is_full used count) refl grows.known
  where
    go : (b : Bool) → is_full used count ≡ b → ((n ≡ 3) ⊎ (n ≡ 27)) → IsRefusedFor {T = U} {E = E} refusal (first_cause ((b, TooLarge) ∷ [])) (Err e)
    go true is known = ap Err (large (let three = grows.refused (leb-true (2 ^ 32) (used + count) is) in cc))
    go false is (inl three) = absurd (let full = le-leb (2 ^ 32) (used + count) (grows.too_large (ap Err three)) in let no = sym is ∙ full in cc)
    go false is (inr out) = memory out

-- for an entry whose name is valid
named : {T E : Type 0} (refusal : Cause → E) (key : List ℕ) (used count : ℕ) (r : Result T E) → is_value_name key ≡ true → IsRefusedFor refusal (first_cause (room_causes used count)) r
    → IsRefusedFor refusal (first_cause (key_causes key used count)) r
named {T} {E} refusal key used count r is told =
    subst (λ b. IsRefusedFor {T = T} {E = E} refusal (first_cause ((not b, InvalidKey) ∷ room_causes used count)) r) (sym is) told

pub key_ok : {T U E : Type 0} (refusal : Cause → E) (t : T) (u : U) (key : List ℕ) (used new count : ℕ) → is_value_name key ≡ true → UsedGrows (Ok t) count used new
    → IsRefusedFor refusal (first_cause (key_causes key used count)) (Ok u)
key_ok refusal t u key used new count is grows = named refusal key used count (Ok u) is (room_ok refusal t u used new count grows)

pub key_err : {T E : Type 0} (U : Type 0) (refusal : Cause → E) (n : ℕ) (e : E) (key : List ℕ) (used new count : ℕ) → is_value_name key ≡ true → UsedGrows {T = T} (Err n) count used new
    → (n ≡ 3 → e ≡ refusal TooLarge) → (n ≡ 27 → e ≡ refusal OutOfMemory) → IsRefusedFor {T = U} refusal (first_cause (key_causes key used count)) (Err e)
key_err {T} U refusal n e key used new count is grows large memory = named {T = U} refusal key used count (Err e) is (room_err {T = T} U refusal n e used new count grows large memory)

-- for one whose name is none
pub key_refused : {E : Type 0} (T : Type 0) (refusal : Cause → E) (key : List ℕ) (used count : ℕ) (e : E) → is_value_name key ≡ false → e ≡ refusal InvalidKey
    → IsRefusedFor {T = T} refusal (first_cause (key_causes key used count)) (Err e)
key_refused {E} T refusal key used count e is same =
    subst (λ b. IsRefusedFor {T = T} {E = E} refusal (first_cause ((not b, InvalidKey) ∷ room_causes used count)) (Err e)) (sym is) (ap Err same)
