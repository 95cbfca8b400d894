-- The place of the last mark.
use Rattle.std.proofs.Common.{◌≡◌, ℕ, zero, suc, ◌+◌, ◌<◌, ◌≤◌, Bool, true, false, List, [], ◌∷◌, length, get_or, Some, None, refl, ap, arith}
use Rattle.gixcfg_commands.specs.Meant.{last_marked}

-- there is none where nothing is marked
pub none_marked : (marks : List Bool) → ((at : ℕ) → at < length marks → get_or marks at false ≡ false) → last_marked marks ≡ None
unfolding last_marked
none_marked [] none = refl
none_marked (mark ∷ marks) none =
    let first : mark ≡ false = none 0 (omega arith) in
    let others = none_marked marks (λ at inside. none (suc at) (omega arith)) in
    rw (others, first) refl

-- it is that of a mark behind which nothing is marked
pub last_is : (marks : List Bool) (at : ℕ) → at < length marks → get_or marks at false ≡ true → ((k : ℕ) → at + 1 ≤ k → k < length marks → get_or marks k false ≡ false)
    → last_marked marks ≡ Some at
unfolding last_marked
last_is [] at inside here behind = absurd (omega arith)
last_is (mark ∷ marks) zero inside here behind =
    let others = none_marked marks (λ k inside. behind (suc k) (omega arith) (omega arith)) in
    let first : mark ≡ true = here in
    rw (others, first) refl
last_is (mark ∷ marks) (suc at) inside here behind =
    let others = last_is marks at (omega arith) here (λ k after inside. behind (suc k) (omega arith) (omega arith)) in
    rw others (ap Some (omega arith))
