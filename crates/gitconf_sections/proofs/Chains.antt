-- One more place in the chains.
use Rattle.std.proofs.Common.{◌≡◌, ◌≢◌, ℕ, ◌+◌, ◌-◌, ◌<◌, ◌≤◌, ◌⊎◌, inl, inr, refl, sym, ◌∙◌, arith, min}
use Rattle.std.proofs.lemmas.Bool.{cases_eq, cases_lt}
use Rattle.gitconf_sections.specs.Links.{IsFirst, IsBehindLast, AreChained, no_place}

module _ (g : ℕ → ℕ) where
  -- no place of the bucket comes first
  first_none : (b a n j : ℕ) → j ≡ no_place → n < no_place → IsFirst g b a n j → (k : ℕ) → a ≤ k → k < n → g k ≢ b
  first_none b a n j e fits h k l u = h.passed k l u (omega (arith, e, u, fits))

  -- the place that is added is of another bucket
  first_other : (b b0 a n j : ℕ) → g n ≡ b0 → b ≢ b0 → IsFirst g b a n j → IsFirst g b a (n + 1) j
  first_other b b0 a n j is other h = record {
    passed = λ k l u under e. elim (cases_eq k n) [
      | inl at ↦ other (let same : g k ≡ b0 = rw at is in sym e ∙ same)
      | inr below ↦ h.passed k l (omega (arith, u, below)) under e
    ];
    stands = λ stands. let old = h.stands stands in (old.0, omega (arith, old.1), old.2);
  }

  behind_other : (b b0 n e : ℕ) → g n ≡ b0 → b ≢ b0 → IsBehindLast g b n e → IsBehindLast g b (n + 1) e
  behind_other b b0 n e is other h = record {
    passed = λ k l u at. elim (cases_eq k n) [
      | inl same ↦ other (let bucket : g k ≡ b0 = rw same is in sym at ∙ bucket)
      | inr below ↦ h.passed k l (omega (arith, u, below)) at
    ];
    stands = λ k s. let old = h.stands k s in (omega (arith, old.0), old.1);
  }

  -- of its own bucket
  first_min : (b n j : ℕ) → g n ≡ b → n < no_place → (j ≡ no_place) ⊎ (j ≢ no_place) → IsFirst g b 0 n j → IsFirst g b 0 (n + 1) (min j n)
  first_min b n j is fits (inl none) h =
      let least : min j n ≡ n = omega (arith, none, fits) in
      rw least (record {
        passed = λ k l u under. h.passed k l under (omega (arith, none, fits, under));
        stands = λ _. (omega arith, omega arith, is);
      })
  first_min b n j is fits (inr stands) h =
      let old = h.stands stands in
      let least : min j n ≡ j = omega (arith, old.1) in
      rw least (record {
        passed = λ k l u under. h.passed k l (omega (arith, old.1, under)) under;
        stands = λ _. (old.0, omega (arith, old.1), old.2);
      })

  behind_next : (b n : ℕ) → g n ≡ b → IsBehindLast g b (n + 1) (n + 1)
  behind_next b n is = record {
    passed = λ k l u. absurd (omega (arith, l, u));
    stands = λ k s. let same : k ≡ n = omega (arith, s) in (omega (arith, s), rw same is);
  }

  -- the last place of the bucket gets the new one as the next
  next_last : (b n k : ℕ) → g n ≡ b → k < n → IsBehindLast g b n (k + 1) → IsFirst g b (k + 1) (n + 1) n
  next_last b n k is below h = record {
    passed = λ i l u under. h.passed i l under;
    stands = λ _. (omega (arith, below), omega arith, is);
  }

  -- another place keeps its next one
  behind_it : (n k e : ℕ) → k < n → e ≢ k + 1 → IsBehindLast g (g n) n e → g k ≡ g n → (k < e) ⊎ (e ≤ k) → k + 1 < e
  behind_it n k e below other last same (inl under) = omega (arith, under, other)
  behind_it n k e below other last same (inr past) = absurd (last.passed k past below same)

  next_kept : (n k j e : ℕ) → n < no_place → k < n → e ≢ k + 1 → IsBehindLast g (g n) n e → IsFirst g (g k) (k + 1) n j
      → (g k ≡ g n) ⊎ (g k ≢ g n) → IsFirst g (g k) (k + 1) (n + 1) j
  next_kept n k j e fits below other last h (inr differs) = first_other (g k) (g n) (k + 1) n j refl differs h
  next_kept n k j e fits below other last h (inl same) =
      let within : k + 1 < e = behind_it n k e below other last same (cases_lt k e) in
      let standing = last.stands (e - 1) (omega (arith, within)) in
      let stands : j ≢ no_place = λ none. first_none (g k) (k + 1) n j none fits h (e - 1) (omega (arith, within)) standing.0 (standing.1 ∙ sym same) in
      let old = h.stands stands in
      record {
        passed = λ i l u under. h.passed i l (omega (arith, under, old.1)) under;
        stands = λ _. (old.0, omega (arith, old.1), old.2);
      }

  -- one more place in its chain
  pub chain_more : (first behind next before first' behind' next' before' : ℕ → ℕ) (size n : ℕ)
      → n < no_place
      → AreChained g first behind next before size n
      → g n < size
      → (first' (g n) ≡ min (first (g n)) n) → ((b : ℕ) → b ≢ g n → first' b ≡ first b)
      → (behind' (g n) ≡ n + 1) → ((b : ℕ) → b ≢ g n → behind' b ≡ behind b)
      → (next' n ≡ no_place) → ((k : ℕ) → k < n → behind (g n) ≡ k + 1 → next' k ≡ n) → ((k : ℕ) → k < n → behind (g n) ≢ k + 1 → next' k ≡ next k)
      → (before' n ≡ behind (g n)) → ((k : ℕ) → k < n → before' k ≡ before k)
      → AreChained g first' behind' next' before' size (n + 1)
  chain_more first behind next before first' behind' next' before' size n fits h of f1 f2 l1 l2 n1 n2 n3 b1 b2 = record {
    firsts = λ b within. one_first b within (cases_eq b (g n));
    lasts = λ b within. one_last b within (cases_eq b (g n));
    nexts = λ k within. one_next k within (cases_eq k n);
    befores = λ k within. one_before k within (cases_eq k n);
  }
    where
      one_first : (b : ℕ) → b < size → (b ≡ g n) ⊎ (b ≢ g n) → IsFirst g b 0 (n + 1) (first' b)
      one_first b within (inl same) =
          rw (same, f1) (first_min (g n) n (first (g n)) refl fits (cases_eq (first (g n)) no_place) (h.firsts (g n) of))
      one_first b within (inr other) = rw (f2 b other) (first_other b (g n) 0 n (first b) refl other (h.firsts b within))

      one_last : (b : ℕ) → b < size → (b ≡ g n) ⊎ (b ≢ g n) → IsBehindLast g b (n + 1) (behind' b)
      one_last b within (inl same) = rw (same, l1) (behind_next (g n) n refl)
      one_last b within (inr other) = rw (l2 b other) (behind_other b (g n) n (behind b) refl other (h.lasts b within))

      below_next : (k : ℕ) → k < n → (behind (g n) ≡ k + 1) ⊎ (behind (g n) ≢ k + 1) → IsFirst g (g k) (k + 1) (n + 1) (next' k)
      below_next k below (inl last) =
          let standing = (h.lasts (g n) of).stands k last in
          rw (n2 k below last, standing.1) (next_last (g n) n k refl below (rw last at (h.lasts (g n) of)))
      below_next k below (inr other) =
          rw (n3 k below other) (next_kept n k (next k) (behind (g n)) fits below other (h.lasts (g n) of) (h.nexts k below) (cases_eq (g k) (g n)))

      one_next : (k : ℕ) → k < n + 1 → (k ≡ n) ⊎ (k ≢ n) → IsFirst g (g k) (k + 1) (n + 1) (next' k)
      one_next k within (inl same) = rw (same, n1) (record {
        passed = λ i l u. absurd (omega (arith, l, u));
        stands = λ stands. absurd (stands refl);
      })
      one_next k within (inr differs) = below_next k (omega (arith, within, differs)) (cases_eq (behind (g n)) (k + 1))

      one_before : (k : ℕ) → k < n + 1 → (k ≡ n) ⊎ (k ≢ n) → IsBehindLast g (g k) k (before' k)
      one_before k within (inl same) = rw (same, b1) (h.lasts (g n) of)
      one_before k within (inr differs) =
          let below : k < n = omega (arith, within, differs) in
          rw (b2 k below) (h.befores k below)
