-- Where the last line of a text begins.
use Rattle.std.proofs.Common.{◌≡◌, ℕ, ◌+◌, ◌-◌, ◌≤◌, ◌<◌, ◌==◌, true, false, not, List, length, get_or, arith}
use Rattle.std.proofs.lemmas.Bool.Decides.{nat_tests}
use Rattle.std.proofs.lemmas.List.Sums.{suffix_len_is}
use Rattle.gix_config_c.specs.Columns.{column_behind}

-- no line ends from there on, and one ends right before it, unless it is the front
pub column_from : (before : List ℕ) (start : ℕ) → start ≤ length before
    → ((k : ℕ) → start ≤ k → k < length before → get_or before k 0 ≡ 10 → ⊥) → (0 < start → get_or before (start - 1) 0 ≡ 10)
    → length before - start + 1 ≡ column_behind before
column_from before start within none ends =
    let inner : (b : ℕ) → (b ≡ 10 → ⊥) → not (b == 10) ≡ true = λ b differs. grind (arith, nat_tests) in
    let outer : (b : ℕ) → b ≡ 10 → not (b == 10) ≡ false = λ b is. grind (arith, nat_tests) in
    omega (arith, suffix_len_is (λ b. not (b == 10)) before start 0 within (λ k a b. inner _ (none k a b)) (λ more. outer _ (ends more)))
