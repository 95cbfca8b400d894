-- Texts that are cut at their dots.
use Rattle.std.proofs.Common.{◌≡◌, ◌<◌, ◌==◌, ℕ, suc, Bool, true, false, List, [], ◌∷◌, ◌++◌, length, take, drop, get_or, refl, sym, ap, ◌∙◌, arith}
use Rattle.std.specs.List.{list_any}
use Rattle.std.specs.Str.{NoCharPasses}
use Rattle.std.specs.Str.Pattern.{HasCharAt}
use Rattle.std.proofs.lemmas.Bool.{eqb-true}
use Rattle.std.proofs.lemmas.List.{take-append-drop}
use Rattle.std.proofs.lemmas.Str.{NoCharPasses-byte}
use Rattle.std.proofs.lemmas.Str.Pattern.{drop_at_char}
use Rattle.gixcfg_core.specs.Patterns.{HasNoDot}

none_at : (bs : List ℕ) → ((i : ℕ) → i < length bs → get_or bs i 0 < 128 → (get_or bs i 0 == 46) ≡ false) → list_any (λ b. b == 46) bs ≡ false
none_at [] none = refl
none_at (b ∷ bs) none = go (b == 46) refl (none_at bs (λ i within small. none (suc i) (omega arith) small))
  where
    go : (is : Bool) → (b == 46) ≡ is → list_any (λ c. c == 46) bs ≡ false → list_any (λ c. c == 46) (b ∷ bs) ≡ false
    go true e rest = let same : b ≡ 46 = eqb-true b 46 e in let not_so : (b == 46) ≡ false = none 0 (omega arith) (omega (arith, same)) in absurd (cc)
    go false e rest = rw e rest

-- a text that has no dot as a character has none as a byte
pub no_dot : (bs : List ℕ) → NoCharPasses (λ d. d == 46) bs → HasNoDot bs
no_dot bs none = none_at bs (λ i within small. NoCharPasses-byte (λ d. d == 46) bs i none within small)

-- a text around one of its dots
pub around : (s : List ℕ) (i j : ℕ) → HasCharAt 46 s i j → s ≡ take i s ++ 46 ∷ drop j s
around s i j at = sym (take-append-drop i s) ∙ ap (λ back. take i s ++ back) (drop_at_char 46 s i j at (omega arith))

-- before its first dot, and behind its last, it has none
pub split_first : (s front back : List ℕ) (i j : ℕ) → NoCharPasses (λ d. d == 46) (take i s) → HasCharAt 46 s i j → front ≡ take i s → back ≡ drop j s
    → (s ≡ front ++ 46 ∷ back) × HasNoDot front
split_first s front back i j none at is behind = rw (is, behind) (around s i j at, no_dot (take i s) none)

pub split_last : (s front back : List ℕ) (i j : ℕ) → NoCharPasses (λ d. d == 46) (drop j s) → HasCharAt 46 s i j → front ≡ take i s → back ≡ drop j s
    → (s ≡ front ++ 46 ∷ back) × HasNoDot back
split_last s front back i j none at is behind = rw (is, behind) (around s i j at, no_dot (drop j s) none)
