-- Steps of the loops over a path, from its end.
use Rattle.std.proofs.Common.{◌≡◌, ℕ, suc, ◌-◌, ◌<◌, Bool, true, false, List, Some, None, get_or, refl, ap, sym, ◌∙◌, arith}
use Rattle.std.specs.Prelude.{◌==◌}
use Rattle.std.proofs.lemmas.Bool.{eqb-true}
use Rattle.gitconf_values.specs.Paths.{trimmed_length, last_slash}

-- a number above zero is one more than the one before it
before : (n : ℕ) → 0 < n → n ≡ suc (n - 1)
before n above = omega (arith, above)

pub trimmed_slash : (n : ℕ) (path : List ℕ) → 0 < n → (get_or path (n - 1) 0 == 47) ≡ true → trimmed_length n path ≡ trimmed_length (n - 1) path
unfolding trimmed_length
trimmed_slash n path above slash = ap (λ k. trimmed_length k path) (before n above) ∙ rw (slash, trimmed_length) refl

pub trimmed_other : (n : ℕ) (path : List ℕ) → 0 < n → (get_or path (n - 1) 0 == 47) ≡ false → trimmed_length n path ≡ n
unfolding trimmed_length
trimmed_other n path above other = ap (λ k. trimmed_length k path) (before n above) ∙ rw (other, trimmed_length) (sym (before n above))

pub trimmed_nothing : (n : ℕ) (path : List ℕ) → n ≡ 0 → trimmed_length n path ≡ 0
unfolding trimmed_length
trimmed_nothing n path nothing = ap (λ k. trimmed_length k path) nothing

pub last_here : (n : ℕ) (path : List ℕ) → 0 < n → (get_or path (n - 1) 0 == 47) ≡ true → last_slash n path ≡ Some (n - 1)
unfolding last_slash
last_here n path above slash = ap (λ k. last_slash k path) (before n above) ∙ rw (slash, last_slash) refl

-- numbers that differ are told apart
told_apart : (a b : ℕ) → (a ≡ b → ⊥) → (a == b) ≡ false
told_apart a b differ = go (a == b) refl
  where
    go : (c : Bool) → (a == b) ≡ c → (a == b) ≡ false
    go true e = absurd (differ (eqb-true a b e))
    go false e = e

pub last_before : (n : ℕ) (path : List ℕ) → 0 < n → (get_or path (n - 1) 0 ≡ 47 → ⊥) → last_slash n path ≡ last_slash (n - 1) path
unfolding last_slash
last_before n path above other = ap (λ k. last_slash k path) (before n above) ∙ rw (told_apart (get_or path (n - 1) 0) 47 other, last_slash) refl

pub last_nothing : (n : ℕ) (path : List ℕ) → n ≡ 0 → last_slash n path ≡ None
unfolding last_slash
last_nothing n path nothing = ap (λ k. last_slash k path) nothing

pub ruleset trimming = (trimmed_slash, trimmed_other, trimmed_nothing)

pub ruleset finding = (last_here, last_before, last_nothing)

pub ruleset ending = (trimmed_nothing)
