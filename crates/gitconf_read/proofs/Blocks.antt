-- Sixteen bytes at once: what the bits of a comparison say of each byte.
use Rattle.std.proofs.Common.{◌≡◌, ℕ, ◌%◌, ◌^◌, ◌≤◌, ◌<◌, Bool, true, false, not, ◌&&◌, ◌==◌, nat_lt, List, [], ◌∷◌, zero, suc, inl, inr, lt-ltb, length, map, get_or, cond, replicate, bit_or, refl, ap, sym, ◌∙◌, arith, w8}
use Rattle.std.specs.Int.{bit_at}
use Rattle.std.specs.Simd.Lanes.{zip2, mask_l, top}
use Rattle.std.proofs.lemmas.Simd.{bitmask_splat, bit_mask_l}
use Rattle.std.proofs.lemmas.Bool.{cases_lt}
use Rattle.std.proofs.lemmas.Nat.Bits.{bit_at_or}
use Rattle.gitconf_text.proofs.Tests.{both_true}
use Rattle.gitconf_read.proofs.Classes.{agree_at, agree_below}
use Rattle.gitconf_read.specs.Reading.{is_plain, is_spelled}

clear : (b : Bool) → cond {A = ℕ} b 1 0 ≡ 0 → b ≡ false
clear true e = absurd (omega arith)
clear false e = refl

get_or-map-within : (f : ℕ → Bool) (v : List ℕ) (k : ℕ) → k < length v → get_or (map f v) k false ≡ f (get_or v k 0)
get_or-map-within f [] k l = absurd (omega arith)
get_or-map-within f (x ∷ v) zero l = refl
get_or-map-within f (x ∷ v) (suc k) l = get_or-map-within f v k (omega arith)

-- where the bit of a comparison with a byte is clear, the comparison fails
pub lane_fails : (t : ℕ → ℕ → Bool) (v : List ℕ) (b k : ℕ) → length v ≡ 16 → k < 16
    → bit_at (mask_l (map (top 7) (zip2 (λ x y. cond (t x y) 255 0) v (replicate 16 b))) % 2 ^ 64) k ≡ 0 → t (get_or v k 0) b ≡ false
lane_fails t v b k long within e =
    let ms = map (λ x. t x b) v in
    let lane : get_or ms k false ≡ t (get_or v k 0) b = get_or-map-within (λ x. t x b) v k (omega arith) in
    let bit : bit_at (mask_l ms) k ≡ cond (get_or ms k false) 1 0 = bit_mask_l ms k in
    let same = ap (λ m. bit_at m k) (bitmask_splat w8 t v 16 b long (omega arith)) in
    sym lane ∙ clear (get_or ms k false) (sym bit ∙ sym same ∙ e)

-- above `#`, neither `;` nor a backslash
abbrev pub is_quiet : ℕ → Bool
is_quiet b = nat_lt 35 b && not (b == 59) && not (b == 92)

-- no quote, no backslash, no LF
abbrev pub is_unmarked : ℕ → Bool
is_unmarked b = not (b == 34) && not (b == 92) && not (b == 10)

pub plain_is : (b : ℕ) → b < 256 → 35 < b → (b == 59) ≡ false → (b == 92) ≡ false → is_plain b ≡ true
unfolding agree_below
plain_is b fits above semicolon backslash =
    let quiet : is_quiet b ≡ true = rw (semicolon, backslash, lt-ltb 35 b above) refl in
    let same : (is_quiet b && is_plain b) ≡ is_quiet b = agree_at (λ b. is_quiet b && is_plain b) is_quiet 256 refl b fits in
    (both_true (is_quiet b) (is_plain b) (same ∙ quiet)).1

pub spelled_is : (b : ℕ) → b < 256 → (b == 34) ≡ false → (b == 92) ≡ false → (b == 10) ≡ false → is_spelled b ≡ true
unfolding agree_below
spelled_is b fits quote backslash line_feed =
    let unmarked : is_unmarked b ≡ true = rw (quote, backslash, line_feed) refl in
    let same : (is_unmarked b && is_spelled b) ≡ is_unmarked b = agree_at (λ b. is_unmarked b && is_spelled b) is_unmarked 256 refl b fits in
    (both_true (is_unmarked b) (is_spelled b) (same ∙ unmarked)).1

-- where a bit of two masks together is clear, it is clear in each
pub both_clear : (m n k : ℕ) → bit_at (bit_or m n) k ≡ 0 → (bit_at m k ≡ 0) × (bit_at n k ≡ 0)
both_clear m n k e = (omega (arith, bit_at_or m n k), omega (arith, bit_at_or m n k))

-- with the bit at 16 it isn't nothing
some_bit : (n : ℕ) → bit_at n 16 ≡ 1 → 0 < n
some_bit zero e = absurd (let none : bit_at 0 16 ≡ 0 = refl in omega arith)
some_bit (suc n) e = omega arith

pub not_empty : (m : ℕ) → 0 < bit_or m 65536
not_empty m = let top : bit_at 65536 16 ≡ 1 = refl in some_bit _ (omega (arith, bit_at_or m 65536 16, top))

-- where no bit below is set but the one at 16, there are at most 16
pub lowest_within : (m t : ℕ) → ((k : ℕ) → k < t → bit_at (bit_or m 65536) k ≡ 0) → t ≤ 16
lowest_within m t below = elim (cases_lt 16 t) [
  | inl past ↦ let top : bit_at 65536 16 ≡ 1 = refl in absurd (omega (arith, bit_at_or m 65536 16, below 16 past, top))
  | inr within ↦ omega (arith, within)
]

pub lowest_below : (m t : ℕ) → ((k : ℕ) → k < t → bit_at (bit_or m 65536) k ≡ 0) → (k : ℕ) → k < t → bit_at m k ≡ 0
lowest_below m t below k l = (both_clear m 65536 k (below k l)).0
