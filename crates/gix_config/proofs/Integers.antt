-- The integers of values, one after the other.
use Rattle.std.proofs.Common.{◌≡◌, ℕ, ℤ, List, [], ◌∷◌, ◌++◌, Result, Ok, Err, refl, ap, sym, ◌∙◌, append-nil, append_assoc}
use Rattle.gitconf_text.specs.ValueErrors.{ValueError}
use Rattle.gitconf_values.specs.Integers.{integer_or_refusal}
use Rattle.gix_config.specs.Typed.{integers_or_refusal}

-- the integers of the values before, put before those of the others
abbrev pub behind : List ℤ → Result (List ℤ) ValueError → Result (List ℤ) ValueError
behind before (Ok ns) = Ok (before ++ ns)
behind before (Err e) = Err e

behind_none : (r : Result (List ℤ) ValueError) → r ≡ behind [] r
behind_none (Ok ns) = refl
behind_none (Err e) = refl

pub none_before : (values : List (List ℕ)) → integers_or_refusal values ≡ behind [] (integers_or_refusal values)
none_before values = behind_none (integers_or_refusal values)

-- the next value has one
pub one_before : (all : Result (List ℤ) ValueError) (before more : List ℤ) (left next : List (List ℕ)) (value : List ℕ) (n : ℤ)
    → all ≡ behind before (integers_or_refusal left) → left ≡ value ∷ next → integer_or_refusal value ≡ Ok n → more ≡ before ++ n ∷ [] → all ≡ behind more (integers_or_refusal next)
one_before all before more left next value n told is gives put =
    told ∙ ap (λ vs. behind before (integers_or_refusal vs)) is ∙ step (integers_or_refusal next)
    ∙ ap (λ ns. behind ns (integers_or_refusal next)) (sym put)
  where
    step : (r : Result (List ℤ) ValueError)
        → behind before (elim (integer_or_refusal value) [ Err e ↦ Err e | Ok n ↦ elim r [ Err e ↦ Err e | Ok ns ↦ Ok (n ∷ ns) ] ]) ≡ behind (before ++ n ∷ []) r
    step (Ok ns) = rw gives (ap Ok (sym (append_assoc before (n ∷ []) ns)))
    step (Err e) = rw gives refl

-- the next value has none
pub none_next : (all : Result (List ℤ) ValueError) (before : List ℤ) (left next : List (List ℕ)) (value : List ℕ) (e : ValueError)
    → all ≡ behind before (integers_or_refusal left) → left ≡ value ∷ next → integer_or_refusal value ≡ Err e → all ≡ Err e
none_next all before left next value e told is gives = told ∙ ap (λ vs. behind before (integers_or_refusal vs)) is ∙ ap (behind before) (step (integers_or_refusal next))
  where
    step : (r : Result (List ℤ) ValueError)
        → ◌≡◌ {A = Result (List ℤ) ValueError} (elim (integer_or_refusal value) [ Err e ↦ Err e | Ok n ↦ elim r [ Err e ↦ Err e | Ok ns ↦ Ok (n ∷ ns) ] ]) (Err e)
    step r = rw gives refl

-- all values have
pub all_before : (all : Result (List ℤ) ValueError) (before : List ℤ) (left : List (List ℕ))
    → all ≡ behind before (integers_or_refusal left) → left ≡ [] → all ≡ Ok before
all_before all before left told is = told ∙ ap (λ vs. behind before (integers_or_refusal vs)) is ∙ ap Ok (append-nil before)
