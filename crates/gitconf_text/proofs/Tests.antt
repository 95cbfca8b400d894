-- Tests: their parts, and what follows where one fails.
use Rattle.std.proofs.Common.{◌≡◌, ℕ, Bool, true, false, not, refl, ap, sym, ◌∙◌}
use Rattle.std.specs.Prelude.{◌&&◌, ◌==◌}
use Rattle.std.proofs.lemmas.Bool.{eqb-true}

-- both parts of a test that holds
pub both_true : (a b : Bool) → (a && b) ≡ true → (a ≡ true) × (b ≡ true)
both_true true b h = (refl, h)
both_true false b h = absurd (cc)

-- a byte that passes a test that k doesn't pass isn't k
pub apart : (p : ℕ → Bool) (k b : ℕ) → p k ≡ false → p b ≡ true → (b == k) ≡ false
apart p k b fails passes = go (b == k) refl
  where
    go : (t : Bool) → (b == k) ≡ t → t ≡ false
    go false e = refl
    go true e = absurd (let h : p k ≡ true = ap p (sym (eqb-true b k e)) ∙ passes in cc)

-- a test that contradicts one that holds
pub refuted : (a : Bool) → (a ≡ true → ⊥) → a ≡ false
refuted true h = absurd (h refl)
refuted false h = refl

pub false_not : (a : Bool) → not a ≡ true → a ≡ false
false_not true h = absurd (cc)
false_not false h = refl
