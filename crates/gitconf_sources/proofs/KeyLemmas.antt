-- The place after the last dot.
use Rattle.std.proofs.Common.{◌≡◌, ℕ, ◌-◌, ◌≤◌, ◌<◌, true, false, not, List, length, get_or, arith}
use Rattle.std.proofs.lemmas.Bool.Decides.{nat_tests}
use Rattle.std.proofs.lemmas.List.Sums.{suffix_len_is}
use Rattle.gitconf_text.specs.SectionKeys.{is_dot}
use Rattle.gitconf_sources.specs.Key.{behind_last_dot}

no_dot : (b : ℕ) → (b ≡ 46 → ⊥) → not (is_dot b) ≡ true
no_dot b differs = grind (arith, nat_tests)

a_dot : (b : ℕ) → b ≡ 46 → not (is_dot b) ≡ false
a_dot b e = grind (arith, nat_tests)

-- a place after which no dot is, and before which one is unless it is the front
pub behind_is : (bytes : List ℕ) (n : ℕ) → n ≤ length bytes → ((k : ℕ) → n ≤ k → k < length bytes → get_or bytes k 0 ≡ 46 → ⊥) → (0 < n → get_or bytes (n - 1) 0 ≡ 46) → n ≡ behind_last_dot bytes
behind_is bytes n within none last =
    omega (arith, suffix_len_is (λ b. not (is_dot b)) bytes n 0 within (λ k a b. no_dot _ (none k a b)) (λ h. a_dot _ (last h)))
