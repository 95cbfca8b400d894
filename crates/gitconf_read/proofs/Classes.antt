-- A table is held against a definition at each of the 256 bytes, by computing.
use Rattle.std.proofs.Common.{◌≡◌, ℕ, zero, suc, ◌<◌, Bool, true, false, ◌&&◌, not, nat_eq, bit_and, get_or, List, refl, arith, inl, inr}
use Rattle.std.specs.Bool.{beq}
use Rattle.std.proofs.lemmas.Bool.{cases_eq}

-- two tests agree on all bytes below n
unfoldable pub agree_below : (one other : ℕ → Bool) → ℕ → Bool
agree_below one other zero = true
agree_below one other (suc n) = beq (one n) (other n) && agree_below one other n

agree_first : (x y rest : Bool) → (beq x y && rest) ≡ true → (x ≡ y) × (rest ≡ true)
agree_first true true rest agree = (refl, agree)
agree_first true false rest agree = cc
agree_first false true rest agree = cc
agree_first false false rest agree = (refl, agree)

pub agree_at : (one other : ℕ → Bool) (n : ℕ) → agree_below one other n ≡ true → (b : ℕ) → b < n → one b ≡ other b
unfolding agree_below
agree_at one other zero agree b below = absurd (omega arith)
agree_at one other (suc n) agree b below =
    let first = agree_first (one n) (other n) (agree_below one other n) agree in
    elim (cases_eq b n) [ inl same ↦ rw same first.0 | inr less ↦ agree_at one other n first.1 b (omega arith) ]

abbrev pub has_flag : (table : List ℕ) → (flag b : ℕ) → Bool
has_flag table flag b = not (nat_eq (bit_and (get_or table b 0) flag) 0)

pub from_table : (table : List ℕ) (flag : ℕ) (test : ℕ → Bool) (b : ℕ) → b < 256 → agree_below (has_flag table flag) test 256 ≡ true → has_flag table flag b ≡ test b
from_table table flag test b below agree = agree_at _ _ 256 agree b below
