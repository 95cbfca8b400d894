-- Where the first `]` of a text is.
use Rattle.std.proofs.Common.{◌≡◌, ◌≢◌, ℕ, zero, suc, ◌+◌, ◌-◌, ◌≤◌, ◌<◌, Bool, true, false, get_or, Option, Some, None, List, [], ◌∷◌, length, drop, refl, ap, ◌∙◌, arith}
use Rattle.std.specs.Prelude.{◌==◌}
use Rattle.std.specs.Option.{option_map}
use Rattle.std.proofs.lemmas.Bool.{eqb-true}
use Rattle.gitconf_glob.specs.Counted.{close_from}

-- a byte that isn't another one
pub other_byte : (b k : ℕ) → b ≢ k → (b == k) ≡ false
other_byte b k differs = go (b == k) refl
  where
    go : (c : Bool) → (b == k) ≡ c → (b == k) ≡ false
    go true e = absurd (differs (eqb-true b k e))
    go false e = e

-- the count begins with more bytes passed
pub counted_from : (n k : ℕ) (p : List ℕ) → close_from (n + k) p ≡ option_map (λ m. n + m) (close_from k p)
unfolding close_from
counted_from n k [] = refl
counted_from n k (b ∷ p) = go (b == 93) refl (counted_from n (k + 1) p)
  where
    go : (c : Bool) → (b == 93) ≡ c → close_from (n + (k + 1)) p ≡ option_map (λ m. n + m) (close_from (k + 1) p)
        → close_from (n + k) (b ∷ p) ≡ option_map (λ m. n + m) (close_from k (b ∷ p))
    go true e later = rw (e, close_from) refl
    go false e later = rw (e, close_from) (ap (λ m. close_from m p) (omega arith) ∙ later)

-- it is within the text
pub close_within : (n : ℕ) (p : List ℕ) (m : ℕ) → close_from n p ≡ Some m → m < n + length p
unfolding close_from
close_within n [] m is = absurd (cc)
close_within n (b ∷ p) m is = go (b == 93) refl (λ e. close_within (n + 1) p m e)
  where
    go : (c : Bool) → (b == 93) ≡ c → (close_from (n + 1) p ≡ Some m → m < n + 1 + length p) → m < n + length (b ∷ p)
    go true e later = let h = rw (e, close_from) at is in let same : n ≡ m = cc in omega (arith, same)
    go false e later = let h = later (rw (e, close_from) at is) in omega (arith, h)

-- after bytes that it isn't in, it is the same one
pub close_behind : (more n : ℕ) (p : List ℕ) (m : ℕ) → close_from n p ≡ Some m → n + more ≤ m → close_from (n + more) (drop more p) ≡ Some m
unfolding close_from
close_behind zero n p m is past = ap (λ k. close_from k p) (omega arith) ∙ is
close_behind (suc more) n [] m is past = absurd (cc)
close_behind (suc more) n (b ∷ p) m is past = go (b == 93) refl (λ e h. close_behind more (n + 1) p m e h)
  where
    go : (c : Bool) → (b == 93) ≡ c → (close_from (n + 1) p ≡ Some m → n + 1 + more ≤ m → close_from (n + 1 + more) (drop more p) ≡ Some m)
        → close_from (n + suc more) (drop (suc more) (b ∷ p)) ≡ Some m
    go true e later = absurd (let h = rw (e, close_from) at is in let same : n ≡ m = cc in omega (arith, same, past))
    go false e later = ap (λ k. close_from k (drop more p)) (omega arith) ∙ later (rw (e, close_from) at is) (omega (arith, past))

-- if none is, none does after some bytes
pub none_behind : (more n k : ℕ) (p : List ℕ) → close_from n p ≡ None → close_from k (drop more p) ≡ None
unfolding close_from
none_behind zero n k [] is = refl
none_behind (suc more) n k [] is = refl
none_behind more n k (b ∷ p) is = go more (b == 93) refl (λ m k. none_behind m (n + 1) k p)
  where
    go : (more : ℕ) (c : Bool) → (b == 93) ≡ c → ((m k : ℕ) → close_from (n + 1) p ≡ None → close_from k (drop m p) ≡ None) → close_from k (drop more (b ∷ p)) ≡ None
    go more true e later = absurd (let h = rw (e, close_from) at is in cc)
    go zero false e later = rw (e, close_from) (later 0 (k + 1) (rw (e, close_from) at is))
    go (suc more) false e later = later more k (rw (e, close_from) at is)

-- the one after `[:`
pub close_of_name : (p : List ℕ) → 2 ≤ length p → get_or p 0 0 ≡ 91 → get_or p 1 0 ≡ 58 → close_from 0 p ≡ close_from 2 (drop 2 p)
unfolding close_from
close_of_name [] long first second = absurd (let h = long in omega arith)
close_of_name (b ∷ []) long first second = absurd (let h = long in omega arith)
close_of_name (b ∷ c ∷ p) long first second = rw (first, second) refl

-- counted without the bytes that were passed
pub anew : (passed n : ℕ) (p : List ℕ) → close_from passed p ≡ Some n → (passed ≤ n) × (close_from 0 p ≡ Some (n - passed))
anew passed n p is = go (close_from 0 p) refl (ap (λ k. close_from k p) (omega arith) ∙ counted_from passed 0 p)
  where
    go : (c : Option ℕ) → close_from 0 p ≡ c → close_from passed p ≡ option_map (λ m. passed + m) (close_from 0 p) → (passed ≤ n) × (close_from 0 p ≡ Some (n - passed))
    go None e counted = absurd (let h = rw e at counted in cc)
    go (Some m) e counted = let h = rw e at counted in let same : passed + m ≡ n = cc in (omega (arith, same), e ∙ ap Some (omega (arith, same)))

-- one byte more comes before it
pub one_before : (b : ℕ) (p : List ℕ) (n : ℕ) → b ≢ 93 → close_from 0 p ≡ Some n → close_from 0 (b ∷ p) ≡ Some (n + 1)
unfolding close_from
one_before b p n differs is = rw (other_byte b 93 differs, close_from) (counted_from 1 0 p ∙ ap (option_map (λ m. 1 + m)) is ∙ ap Some (omega arith))

pub none_before : (b : ℕ) (p : List ℕ) → b ≢ 93 → close_from 0 p ≡ None → close_from 0 (b ∷ p) ≡ None
unfolding close_from
none_before b p differs is = rw (other_byte b 93 differs, close_from) (counted_from 1 0 p ∙ ap (option_map (λ m. 1 + m)) is)

pub close_first : (b : ℕ) (p : List ℕ) → b ≡ 93 → close_from 0 (b ∷ p) ≡ Some 0
unfolding close_from
close_first b p e = rw e refl
