-- A place that is removed from its chain, and one that is put into another.
use Rattle.std.proofs.Common.{◌≡◌, ◌≢◌, ℕ, ◌+◌, ◌-◌, ◌<◌, ◌≤◌, ◌⊎◌, inl, inr, refl, sym, ap, subst, ◌∙◌, arith, min, List, length, set, slice_index}
use Rattle.std.proofs.lemmas.Bool.{cases_eq, cases_lt, eq-eqb}
use Rattle.std.proofs.lemmas.List.{get_or-set_same, get_or-set_other}
use Rattle.std.proofs.lemmas.Nat.{and_le_r}
use Rattle.gitconf_sections.specs.declared.index.Link.{Link}
use Rattle.gitconf_sections.specs.declared.index.Bucket.{Bucket}
use Rattle.gitconf_sections.specs.Links.{IsFirst, IsBehindLast, AreChained, AreLinked, IsLed, bucket_of, ends_of, link_at, no_place, words_of}
use Rattle.gitconf_sections.specs.Places.{bucket_at}
use Rattle.gitconf_sections.specs.LinkMoves.{AreChainedBut, AreLinkedBut, IsLedBack, LeadsBack, LeadsOn, bucket_but}
use Rattle.gitconf_sections.proofs.LinkLemmas.{behind_within, no_link, shown_set, words_other}
use Rattle.gitconf_sections.proofs.Places.{differs, word_is}

-- the next place of a bucket follows
pub later : (g : ℕ → ℕ) (b at n j : ℕ) → n ≤ no_place → at < n → IsFirst g b (at + 1) n j → at < j
later g b at n j fits within next = go (cases_eq j no_place)
  where
    go : (j ≡ no_place) ⊎ (j ≢ no_place) → at < j
    go (inl none) = omega (arith, none, fits, within)
    go (inr stands) = let s = next.stands stands in omega (arith, s.0)

-- A place `at` gets another bucket. Between `e` and `j` no other place of bucket b is.
module _ (g h : ℕ → ℕ) (at b n e j : ℕ) (fits : n ≤ no_place) (within : at < n) (same : (k : ℕ) → k ≢ at → h k ≡ g k)
    (prev : IsBehindLast g b at e) (next : IsFirst g b (at + 1) n j) where
  e_within : e ≤ at
  e_within = behind_within g b at e prev

  j_behind : at < j
  j_behind = later g b at n j fits within next

  -- no place of the bucket is between `a`, which is after one of the bucket, and the place: so `a` is `e`
  no_more : (a : ℕ) → a ≤ at → ((k : ℕ) → a ≡ k + 1 → g k ≡ b) → ((k : ℕ) → a ≤ k → k < at → g k ≢ b) → e ≢ a → ⊥
  no_more a before is none other = go (cases_lt e a)
    where
      go : (e < a) ⊎ (a ≤ e) → ⊥
      go (inl less) = prev.passed (a - 1) (omega (arith, less)) (omega (arith, less, before)) (is (a - 1) (omega (arith, less)))
      go (inr more) =
          let s = prev.stands (e - 1) (omega (arith, more, other)) in
          none (e - 1) (omega (arith, more, other)) (omega (arith, s.0)) s.1

  -- nor between the place and `m`, which is of the bucket or the end: so `m` is `j` or the end
  no_less : (m : ℕ) → at < m → m ≤ n → (m < n → g m ≡ b) → ((k : ℕ) → at < k → k < m → g k ≢ b) → min j n ≢ m → ⊥
  no_less m past inside is none other = go (cases_lt j m) (cases_lt m n)
    where
      go : (j < m) ⊎ (m ≤ j) → (m < n) ⊎ (n ≤ m) → ⊥
      go (inl less) _ =
          let s = next.stands (λ no. omega (arith, no, less, inside, fits)) in
          none j (omega (arith, s.0)) less s.2
      go (inr more) (inl standing) = next.passed m (omega (arith, past)) standing (omega (arith, more, standing, other)) (is standing)
      go (inr more) (inr end) = omega (arith, more, end, inside, other)

  -- the place leaves the bucket
  module _ (was : g at ≡ b) (left : h at ≢ b) where
    pub first_out : (a x x' : ℕ) → ((k : ℕ) → a ≡ k + 1 → g k ≡ b) → IsFirst g b a n x → (e ≡ a → x' ≡ j) → (e ≢ a → x' ≡ x) → IsFirst h b a n x'
    first_out a x x' is f one two = go (cases_eq e a)
      where
        go : (e ≡ a) ⊎ (e ≢ a) → IsFirst h b a n x'
        go (inl it) = rw (one it) (record {
          passed = λ k l u under of. elim (cases_eq k at) [
            | inl here ↦ left (ap h (sym here) ∙ of)
            | inr other ↦ elim (cases_lt k at) [
              | inl below ↦ prev.passed k (omega (arith, it, l)) below (sym (same k other) ∙ of)
              | inr above ↦ next.passed k (omega (arith, above, other)) u under (sym (same k other) ∙ of)
            ]
          ];
          stands = λ s. let o = next.stands s in (omega (arith, it, e_within, o.0), o.1, same j (λ here. omega (arith, here, o.0)) ∙ o.2);
        })
        go (inr not) = rw (two not) (record {
          passed = λ k l u under of. elim (cases_eq k at) [
            | inl here ↦ left (ap h (sym here) ∙ of)
            | inr other ↦ f.passed k l u under (sym (same k other) ∙ of)
          ];
          stands = λ s. let o = f.stands s in (
            o.0,
            o.1,
            same x (λ here. no_more a (omega (arith, here, o.0)) is (λ k l u. f.passed k l (omega (arith, u, within)) (omega (arith, here, u))) not) ∙ o.2,
          );
        })

    pub last_out : (m x x' : ℕ) → m ≤ n → (m < n → g m ≡ b) → IsBehindLast g b m x → (min j n ≡ m → x' ≡ e) → (min j n ≢ m → x' ≡ x) → IsBehindLast h b m x'
    last_out m x x' inside is f one two = go (cases_eq (min j n) m)
      where
        go : (min j n ≡ m) ⊎ (min j n ≢ m) → IsBehindLast h b m x'
        go (inl it) = rw (one it) (record {
          passed = λ k l u of. elim (cases_eq k at) [
            | inl here ↦ left (ap h (sym here) ∙ of)
            | inr other ↦ elim (cases_lt k at) [
              | inl below ↦ prev.passed k l below (sym (same k other) ∙ of)
              | inr above ↦ next.passed k (omega (arith, above, other)) (omega (arith, u, inside)) (omega (arith, u, it)) (sym (same k other) ∙ of)
            ]
          ];
          stands = λ k s. let o = prev.stands k s in (omega (arith, o.0, it, j_behind, within), same k (λ here. omega (arith, here, o.0)) ∙ o.1);
        })
        go (inr not) = rw (two not) (record {
          passed = λ k l u of. elim (cases_eq k at) [
            | inl here ↦ left (ap h (sym here) ∙ of)
            | inr other ↦ f.passed k l u (sym (same k other) ∙ of)
          ];
          stands = λ k s. let o = f.stands k s in (
            o.0,
            same k (λ here. no_less m (omega (arith, here, o.0)) inside is (λ i l u. f.passed i (omega (arith, s, here, l)) u) not) ∙ o.1,
          );
        })

  -- the place comes into the bucket
  module _ (was : g at ≢ b) (come : h at ≡ b) where
    pub first_in : (a x x' : ℕ) → ((k : ℕ) → a ≡ k + 1 → g k ≡ b) → IsFirst g b a n x → (e ≡ a → x' ≡ at) → (e ≢ a → x' ≡ x) → IsFirst h b a n x'
    first_in a x x' is f one two = go (cases_eq e a)
      where
        go : (e ≡ a) ⊎ (e ≢ a) → IsFirst h b a n x'
        go (inl it) = rw (one it) (record {
          passed = λ k l u under of. prev.passed k (omega (arith, it, l)) under (sym (same k (λ here. omega (arith, here, under))) ∙ of);
          stands = λ s. (omega (arith, it, e_within), within, come);
        })
        go (inr not) = rw (two not) (record {
          passed = λ k l u under of. elim (cases_eq k at) [
            | inl here ↦ no_more a (omega (arith, here, l)) is (λ i l' u'. f.passed i l' (omega (arith, u', within)) (omega (arith, u', here, under))) not
            | inr other ↦ f.passed k l u under (sym (same k other) ∙ of)
          ];
          stands = λ s. let o = f.stands s in (o.0, o.1, same x (λ here. was (ap g (sym here) ∙ o.2)) ∙ o.2);
        })

    pub last_in : (m x x' : ℕ) → m ≤ n → (m < n → g m ≡ b) → IsBehindLast g b m x → (min j n ≡ m → x' ≡ at + 1) → (min j n ≢ m → x' ≡ x) → IsBehindLast h b m x'
    last_in m x x' inside is f one two = go (cases_eq (min j n) m)
      where
        go : (min j n ≡ m) ⊎ (min j n ≢ m) → IsBehindLast h b m x'
        go (inl it) = rw (one it) (record {
          passed = λ k l u of. next.passed k l (omega (arith, u, inside)) (omega (arith, u, it)) (sym (same k (λ here. omega (arith, here, l))) ∙ of);
          stands = λ k s. let here : k ≡ at = omega (arith, s) in (omega (arith, here, it, j_behind, within), ap h here ∙ come);
        })
        go (inr not) = rw (two not) (record {
          passed = λ k l u of. elim (cases_eq k at) [
            | inl here ↦ no_less m (omega (arith, here, u)) inside is (λ i l' u'. f.passed i (omega (arith, here, l, l')) u') not
            | inr other ↦ f.passed k l u (sym (same k other) ∙ of)
          ];
          stands = λ k s. let o = f.stands k s in (o.0, same k (λ here. was (ap g (sym here) ∙ o.1)) ∙ o.1);
        })

-- a bucket that the place neither leaves nor comes into
module _ (g h : ℕ → ℕ) (at b : ℕ) (same : (k : ℕ) → k ≢ at → h k ≡ g k) (was : g at ≢ b) (is : h at ≢ b) where
  pub first_by : (a n x : ℕ) → IsFirst g b a n x → IsFirst h b a n x
  first_by a n x f = record {
    passed = λ k l u under of. elim (cases_eq k at) [
      | inl here ↦ is (ap h (sym here) ∙ of)
      | inr other ↦ f.passed k l u under (sym (same k other) ∙ of)
    ];
    stands = λ s. let o = f.stands s in (o.0, o.1, same x (λ here. was (ap g (sym here) ∙ o.2)) ∙ o.2);
  }

  pub last_by : (m x : ℕ) → IsBehindLast g b m x → IsBehindLast h b m x
  last_by m x f = record {
    passed = λ k l u of. elim (cases_eq k at) [
      | inl here ↦ is (ap h (sym here) ∙ of)
      | inr other ↦ f.passed k l u (sym (same k other) ∙ of)
    ];
    stands = λ k s. let o = f.stands k s in (o.0, same k (λ here. was (ap g (sym here) ∙ o.1)) ∙ o.1);
  }

-- what is on either side of the place, before it comes or after its leaving
pub first_beside : (g h : ℕ → ℕ) (at b n j : ℕ) → ((k : ℕ) → k ≢ at → h k ≡ g k) → IsFirst g b (at + 1) n j → IsFirst h b (at + 1) n j
first_beside g h at b n j same f = record {
  passed = λ k l u under of. f.passed k l u under (sym (same k (λ here. omega (arith, here, l))) ∙ of);
  stands = λ s. let o = f.stands s in (o.0, o.1, same j (λ here. omega (arith, here, o.0)) ∙ o.2);
}

pub last_beside : (g h : ℕ → ℕ) (at b e : ℕ) → ((k : ℕ) → k ≢ at → h k ≡ g k) → IsBehindLast g b at e → IsBehindLast h b at e
last_beside g h at b e same f = record {
  passed = λ k l u of. f.passed k l u (sym (same k (λ here. omega (arith, here, u))) ∙ of);
  stands = λ k s. let o = f.stands k s in (o.0, same k (λ here. omega (arith, here, o.0)) ∙ o.1);
}

-- The place is removed from its chain: those beside it lead to each other.
pub chain_out : (g h : ℕ → ℕ) (at : ℕ) (first behind next before first' behind' next' before' : ℕ → ℕ) (size n : ℕ)
    → n ≤ no_place → at < n → ((k : ℕ) → k ≢ at → h k ≡ g k) → g at < size → h at ≡ size → ((k : ℕ) → g k < size)
    → AreChained g first behind next before size n
    → (before at ≡ 0 → first' (g at) ≡ next at) → ((b : ℕ) → (b ≢ g at) ⊎ (before at ≢ 0) → first' b ≡ first b)
    → ((k : ℕ) → before at ≡ k + 1 → next' k ≡ next at) → ((k : ℕ) → before at ≢ k + 1 → next' k ≡ next k)
    → (n ≤ next at → behind' (g at) ≡ before at) → ((b : ℕ) → (b ≢ g at) ⊎ (next at < n) → behind' b ≡ behind b)
    → (next at < n → before' (next at) ≡ before at) → ((k : ℕ) → k ≢ next at → before' k ≡ before k)
    → AreChainedBut at h first' behind' next' before' size n
chain_out g h at first behind next before first' behind' next' before' size n fits within same of gone inside c f1 f2 n1 n2 l1 l2 b1 b2 = record {
  firsts = λ b w. one_first b w (cases_eq b (g at));
  lasts = λ b w. one_last b w (cases_eq b (g at));
  nexts = λ k w other. rw (same k other) (one_next k w other (cases_eq (g k) (g at)));
  befores = λ k w other. rw (same k other) (one_before k w other (cases_eq (g k) (g at)));
}
  where
    e : ℕ
    e = before at

    j : ℕ
    j = next at

    prev : IsBehindLast g (g at) at e
    prev = c.befores at within

    after : IsFirst g (g at) (at + 1) n j
    after = c.nexts at within

    not_now : (b : ℕ) → b < size → h at ≢ b
    not_now b w is = omega (arith, sym is ∙ gone, w)

    one_first : (b : ℕ) → b < size → (b ≡ g at) ⊎ (b ≢ g at) → IsFirst h b 0 n (first' b)
    one_first b w (inl it) =
        rw it (first_out g h at (g at) n e j fits within same prev after refl (not_now (g at) of) 0 (first (g at)) (first' (g at)) (λ k no. absurd (omega (arith, no))) (c.firsts (g at) of)
        f1 (λ some. f2 (g at) (inr some)))
    one_first b w (inr other) = rw (f2 b (inl other)) (first_by g h at b same (λ is. other (sym is)) (not_now b w) 0 n (first b) (c.firsts b w))

    one_last : (b : ℕ) → b < size → (b ≡ g at) ⊎ (b ≢ g at) → IsBehindLast h b n (behind' b)
    one_last b w (inl it) =
        rw it (last_out g h at (g at) n e j fits within same prev after refl (not_now (g at) of) n (behind (g at)) (behind' (g at)) (omega arith) (λ no. absurd (omega (arith, no))) (c.lasts (g at) of)
        (λ end. l1 (omega (arith, end))) (λ some. l2 (g at) (inr (omega (arith, some)))))
    one_last b w (inr other) = rw (l2 b (inl other)) (last_by g h at b same (λ is. other (sym is)) (not_now b w) n (behind b) (c.lasts b w))

    one_next : (k : ℕ) → k < n → k ≢ at → (g k ≡ g at) ⊎ (g k ≢ g at) → IsFirst h (g k) (k + 1) n (next' k)
    one_next k w other (inl it) =
        rw it (first_out g h at (g at) n e j fits within same prev after refl (not_now (g at) of) (k + 1) (next k) (next' k) (λ i is. (let here : i ≡ k = omega (arith, is) in ap g here ∙ it)) (rw it at (c.nexts k w))
        (n1 k) (n2 k))
    one_next k w other (inr differs) =
        rw (n2 k (λ is. differs (prev.stands k is).1)) (first_by g h at (g k) same (λ is. differs (sym is)) (not_now (g k) (inside k)) (k + 1) n (next k) (c.nexts k w))

    one_before : (k : ℕ) → k < n → k ≢ at → (g k ≡ g at) ⊎ (g k ≢ g at) → IsBehindLast h (g k) k (before' k)
    one_before k w other (inl it) =
        rw it (last_out g h at (g at) n e j fits within same prev after refl (not_now (g at) of) k (before k) (before' k) (omega (arith, w)) (λ _. it) (rw it at (c.befores k w))
        (λ end. (let here : k ≡ j = omega (arith, end, w) in rw here (b1 (omega (arith, here, w))))) (λ some. b2 k (λ here. some (omega (arith, here, w)))))
    one_before k w other (inr differs) =
        rw (b2 k (λ here. differs (ap g here ∙ (after.stands (λ none. omega (arith, none, here, w, fits))).2))) (last_by g h at (g k) same (λ is. differs (sym is)) (not_now (g k) (inside k)) k (before k) (c.befores k w))

-- The place is put into a chain, between two that led to each other.
pub chain_in : (g h : ℕ → ℕ) (at b e j : ℕ) (first behind next before first' behind' next' before' : ℕ → ℕ) (size n : ℕ)
    → n ≤ no_place → at < n → ((k : ℕ) → k ≢ at → h k ≡ g k) → b < size → g at ≡ size → h at ≡ b → ((k : ℕ) → k ≢ at → g k < size)
    → AreChainedBut at g first behind next before size n → IsBehindLast g b at e → IsFirst g b (at + 1) n j
    → (e ≡ 0 → first' b ≡ at) → ((i : ℕ) → (i ≢ b) ⊎ (e ≢ 0) → first' i ≡ first i)
    → (next' at ≡ j) → ((k : ℕ) → e ≡ k + 1 → next' k ≡ at) → ((k : ℕ) → k ≢ at → e ≢ k + 1 → next' k ≡ next k)
    → (n ≤ j → behind' b ≡ at + 1) → ((i : ℕ) → (i ≢ b) ⊎ (j < n) → behind' i ≡ behind i)
    → (before' at ≡ e) → (j < n → before' j ≡ at + 1) → ((k : ℕ) → k ≢ at → k ≢ j → before' k ≡ before k)
    → AreChained h first' behind' next' before' size n
chain_in g h at b e j first behind next before first' behind' next' before' size n fits within same of gone come inside c prev after f1 f2 n0 n1 n2 l1 l2 b0 b1 b2 = record {
  firsts = λ i w. one_first i w (cases_eq i b);
  lasts = λ i w. one_last i w (cases_eq i b);
  nexts = λ k w. one_next k w (cases_eq k at);
  befores = λ k w. one_before k w (cases_eq k at);
}
  where
    not_yet : (i : ℕ) → i < size → g at ≢ i
    not_yet i w is = omega (arith, sym is ∙ gone, w)

    one_first : (i : ℕ) → i < size → (i ≡ b) ⊎ (i ≢ b) → IsFirst h i 0 n (first' i)
    one_first i w (inl it) =
        rw it (first_in g h at b n e j fits within same prev after (not_yet b of) come 0 (first b) (first' b) (λ k no. absurd (omega (arith, no))) (c.firsts b of)
        f1 (λ some. f2 b (inr some)))
    one_first i w (inr other) = rw (f2 i (inl other)) (first_by g h at i same (not_yet i w) (λ is. other (sym is ∙ come)) 0 n (first i) (c.firsts i w))

    one_last : (i : ℕ) → i < size → (i ≡ b) ⊎ (i ≢ b) → IsBehindLast h i n (behind' i)
    one_last i w (inl it) =
        rw it (last_in g h at b n e j fits within same prev after (not_yet b of) come n (behind b) (behind' b) (omega arith) (λ no. absurd (omega (arith, no))) (c.lasts b of)
        (λ end. l1 (omega (arith, end))) (λ some. l2 b (inr (omega (arith, some)))))
    one_last i w (inr other) = rw (l2 i (inl other)) (last_by g h at i same (not_yet i w) (λ is. other (sym is ∙ come)) n (behind i) (c.lasts i w))

    next_so : (k : ℕ) → k < n → k ≢ at → (g k ≡ b) ⊎ (g k ≢ b) → IsFirst h (g k) (k + 1) n (next' k)
    next_so k w other (inl it) =
        rw it (first_in g h at b n e j fits within same prev after (not_yet b of) come (k + 1) (next k) (next' k) (λ i is. (let here : i ≡ k = omega (arith, is) in ap g here ∙ it)) (rw it at (c.nexts k w other))
        (n1 k) (n2 k other))
    next_so k w other (inr differs) =
        rw (n2 k other (λ is. differs (prev.stands k is).1)) (first_by g h at (g k) same (not_yet (g k) (inside k other)) (λ is. differs (sym is ∙ come)) (k + 1) n (next k) (c.nexts k w other))

    one_next : (k : ℕ) → k < n → (k ≡ at) ⊎ (k ≢ at) → IsFirst h (h k) (k + 1) n (next' k)
    one_next k w (inl here) = rw (here, come, n0) (first_beside g h at b n j same after)
    one_next k w (inr other) = rw (same k other) (next_so k w other (cases_eq (g k) b))

    before_so : (k : ℕ) → k < n → k ≢ at → (g k ≡ b) ⊎ (g k ≢ b) → IsBehindLast h (g k) k (before' k)
    before_so k w other (inl it) =
        rw it (last_in g h at b n e j fits within same prev after (not_yet b of) come k (before k) (before' k) (omega (arith, w)) (λ _. it) (rw it at (c.befores k w other))
        (λ end. (let here : k ≡ j = omega (arith, end, w) in rw here (b1 (omega (arith, here, w))))) (λ some. b2 k other (λ here. some (omega (arith, here, w)))))
    before_so k w other (inr differs) =
        rw (b2 k other (λ here. differs (ap g here ∙ (after.stands (λ none. omega (arith, none, here, w, fits))).2))) (last_by g h at (g k) same (not_yet (g k) (inside k other)) (λ is. differs (sym is ∙ come)) k (before k) (c.befores k w other))

    one_before : (k : ℕ) → k < n → (k ≡ at) ⊎ (k ≢ at) → IsBehindLast h (h k) k (before' k)
    one_before k w (inl here) = rw (here, come, b0) (last_beside g h at b e same prev)
    one_before k w (inr other) = rw (same k other) (before_so k w other (cases_eq (g k) b))

-- Links and buckets while a place moves.
pub same_word : (a b : List Link) (k : ℕ) → words_of a ≡ words_of b → (link_at a k).word ≡ (link_at b k).word
same_word a b k same = sym (word_is a k) ∙ ap (λ ws. slice_index ws k) same ∙ word_is b k

-- a word has one of the buckets
pub bucket_within : (size word : ℕ) → 0 < size → bucket_of size word < size
bucket_within size word some = let l = and_le_r word (size - 1) in omega (arith, l, some)

-- the place has no bucket, and the others have theirs
out_of : (size at : ℕ) (links : List Link) → bucket_but size at links at ≡ size
out_of size at links = rw (eq-eqb at at refl) refl

pub others_of : (size at k : ℕ) (links : List Link) → k ≢ at → bucket_but size at links k ≡ bucket_of size (link_at links k).word
others_of size at k links other = rw (differs k at other) refl

-- the links and buckets after the steps that take a place out
pub taken_out : (links led back : List Link) (buckets ends closed : List Bucket) (at b n : ℕ) → at < length links → length links ≤ no_place → 0 < length buckets
    → length led ≡ length links → length back ≡ length links → length closed ≡ length buckets → b ≡ bucket_of (length buckets) (link_at links at).word → n ≡ length links
    → words_of back ≡ words_of links → IsLed links (link_at links at).before (link_at links at).next led → IsLedBack led (link_at links at).next (link_at links at).before back
    → LeadsOn buckets b (link_at links at).before (link_at links at).next ends → LeadsBack ends b n (link_at links at).next (link_at links at).before closed
    → AreLinked (length links) links buckets → AreLinkedBut at back closed
taken_out links led back buckets ends closed at b n within fits some long long' wide of is words l l' f f' h =
    let g : ℕ → ℕ = λ k. bucket_of (length buckets) (link_at links k).word in
    let j = (link_at links at).next in
    let same : (k : ℕ) → k ≢ at → bucket_but (length buckets) at back k ≡ g k =
    λ k other. others_of (length buckets) at k back other ∙ ap (bucket_of (length buckets)) (same_word back links k words) in
    let chained = chain_out g (bucket_but (length buckets) at back) at
    (λ i. (ends_of buckets i).first) (λ i. (ends_of buckets i).behind) (λ k. (link_at links k).next) (λ k. (link_at links k).before)
    (λ i. (ends_of closed i).first) (λ i. (ends_of closed i).behind) (λ k. (link_at back k).next) (λ k. (link_at back k).before)
    (length buckets) (length links) fits within same (bucket_within (length buckets) _ some) (out_of (length buckets) at back) (λ k. bucket_within (length buckets) _ some) h
    (λ none. ap (λ i. (ends_of closed i).first) (sym of) ∙ f'.firsts b ∙ f.first none)
    (λ i other. f'.firsts i ∙ f.others i (rw of other))
    (λ k it. l'.nexts k ∙ l.next k it)
    (λ k other. l'.nexts k ∙ l.others k other)
    (λ end. ap (λ i. (ends_of closed i).behind) (sym of) ∙ f'.behind_it (omega (arith, is, end)))
    (λ i other. f'.others i (rw (of, is) other) ∙ f.behinds i)
    (λ below. l'.before (omega (arith, long, below)))
    (λ k other. l'.others k other ∙ l.befores k) in
    let Chained : ℕ → ℕ → Type 0 = λ size count. AreChainedBut at (bucket_but size at back) (λ i. (ends_of closed i).first) (λ i. (ends_of closed i).behind)
    (λ k. (link_at back k).next) (λ k. (link_at back k).before) size count in
    subst (Chained (length closed)) (sym long') (subst (λ size. Chained size (length links)) (sym wide) chained)

-- the links and buckets after the steps that put it in under a word
pub put_between : (links led back : List Link) (buckets ends closed : List Bucket) (at word b n e j : ℕ) → at < length links → length links ≤ no_place → 0 < length buckets
    → length led ≡ length links → length back ≡ length links → length closed ≡ length buckets → b ≡ bucket_of (length buckets) word → n ≡ length links
    → words_of back ≡ words_of (set links at (record { word = word; next = j; before = e })) → IsLed (set links at (record { word = word; next = j; before = e })) e at led → IsLedBack led j (at + 1) back
    → LeadsOn buckets b e at ends → LeadsBack ends b n j (at + 1) closed
    → IsBehindLast (bucket_but (length buckets) at links) (bucket_of (length buckets) word) at e → IsFirst (bucket_but (length buckets) at links) (bucket_of (length buckets) word) (at + 1) (length links) j
    → AreLinkedBut at links buckets → AreLinked (length links) back closed
put_between links led back buckets ends closed at word b n e j within fits some long long' wide of is words l l' f f' prev after h =
    let new : Link = record { word = word; next = j; before = e } in
    let g = bucket_but (length buckets) at links in
    let own = bucket_of (length buckets) word in
    let now : ℕ → ℕ = λ k. bucket_of (length buckets) (link_at back k).word in
    let it : link_at (set links at new) at ≡ new = get_or-set_same links at new no_link within in
    let rest : (k : ℕ) → k ≢ at → link_at (set links at new) k ≡ link_at links k = λ k other. get_or-set_other links at k new no_link other in
    let same : (k : ℕ) → k ≢ at → now k ≡ g k = λ k other.
    ap (bucket_of (length buckets)) (same_word back (set links at new) k words ∙ ap (λ (r : Link). r.word) (rest k other)) ∙ sym (others_of (length buckets) at k links other) in
    let come : now at ≡ own = ap (bucket_of (length buckets)) (same_word back (set links at new) at words ∙ ap (λ (r : Link). r.word) it) in
    let before : e ≤ at = behind_within g own at e prev in
    let past : at < j = later g own at (length links) j fits within after in
    let chained = chain_in g now at own e j
    (λ i. (ends_of buckets i).first) (λ i. (ends_of buckets i).behind) (λ k. (link_at links k).next) (λ k. (link_at links k).before)
    (λ i. (ends_of closed i).first) (λ i. (ends_of closed i).behind) (λ k. (link_at back k).next) (λ k. (link_at back k).before)
    (length buckets) (length links) fits within same (bucket_within (length buckets) word some) (out_of (length buckets) at links) come
    (λ k other. let w = bucket_within (length buckets) (link_at links k).word some in rw (others_of (length buckets) at k links other) w) h prev after
    (λ none. ap (λ i. (ends_of closed i).first) (sym of) ∙ f'.firsts b ∙ f.first none)
    (λ i other. f'.firsts i ∙ f.others i (rw of other))
    (l'.nexts at ∙ l.others at (λ no. omega (arith, no, before)) ∙ ap (λ (r : Link). r.next) it)
    (λ k to. l'.nexts k ∙ l.next k to)
    (λ k other to. l'.nexts k ∙ l.others k to ∙ ap (λ (r : Link). r.next) (rest k other))
    (λ end. ap (λ i. (ends_of closed i).behind) (sym of) ∙ f'.behind_it (omega (arith, is, end)))
    (λ i other. f'.others i (rw (of, is) other) ∙ f.behinds i)
    (l'.others at (λ no. omega (arith, no, past)) ∙ l.befores at ∙ ap (λ (r : Link). r.before) it)
    (λ below. l'.before (omega (arith, long, below)))
    (λ k other to. l'.others k to ∙ l.befores k ∙ ap (λ (r : Link). r.before) (rest k other)) in
    subst (λ size. AreChained (λ k. bucket_of size (link_at back k).word) (λ i. (ends_of closed i).first) (λ i. (ends_of closed i).behind)
    (λ k. (link_at back k).next) (λ k. (link_at back k).before) size (length links)) (sym wide) chained

-- where it is in the other chain, told before it is removed and after that
module _ (links out : List Link) (size size' at word b : ℕ) (same : size' ≡ size) (is : b ≡ bucket_of size word) (words : words_of out ≡ words_of links) where
  as_before : (k : ℕ) → k ≢ at → bucket_but size at out k ≡ bucket_at size links k
  as_before k other = others_of size at k out other ∙ ap (bucket_of size) (same_word out links k words)

  pub behind_still : (e : ℕ) → IsBehindLast (bucket_at size links) b at e → IsBehindLast (bucket_but size' at out) (bucket_of size' word) at e
  behind_still e h = rw (same, ← is) (last_beside (bucket_at size links) (bucket_but size at out) at b e as_before h)

  pub next_still : (n n' j : ℕ) → n' ≡ n → IsFirst (bucket_at size links) b (at + 1) n j → IsFirst (bucket_but size' at out) (bucket_of size' word) (at + 1) n' j
  next_still n n' j long h = rw (same, ← is, long) (first_beside (bucket_at size links) (bucket_but size at out) at b n j as_before h)

-- another word of the same bucket leaves the chains
pub linked_again : (links : List Link) (buckets : List Bucket) (at : ℕ) (new : Link) → at < length links → bucket_of (length buckets) new.word ≡ bucket_of (length buckets) (link_at links at).word
    → new.next ≡ (link_at links at).next → new.before ≡ (link_at links at).before → AreLinked (length links) links buckets → AreLinked (length links) (set links at new) buckets
linked_again links buckets at new within bucket next before h =
    let shown : (f : Link → ℕ) → f new ≡ f (link_at links at) → (k : ℕ) → f (link_at links k) ≡ f (link_at (set links at new) k) =
    λ f e k. sym (shown_set f links at k new e (cases_eq k at) within) in
    let Chained : (ℕ → ℕ) → (ℕ → ℕ) → (ℕ → ℕ) → Type 0 = λ g nexts befores. AreChained g (λ i. (ends_of buckets i).first) (λ i. (ends_of buckets i).behind) nexts befores (length buckets) (length links) in
    let g : ℕ → ℕ = λ k. bucket_of (length buckets) (link_at (set links at new) k).word in
    let nexts : ℕ → ℕ = λ k. (link_at (set links at new) k).next in
    subst (λ befores. Chained g nexts befores) (λ j k. shown (λ l. l.before) before k j)
    (subst (λ nexts. Chained g nexts (λ k. (link_at links k).before)) (λ j k. shown (λ l. l.next) next k j)
    (subst (λ g. Chained g (λ k. (link_at links k).next) (λ k. (link_at links k).before)) (λ j k. shown (λ l. bucket_of (length buckets) l.word) bucket k j) h))

-- the word that was put at a place is there, and is its bucket's
pub now_of : (links new : List Link) (size at word k : ℕ) → at < length links → words_of new ≡ set (words_of links) at word → at + 1 ≡ k + 1 → bucket_at size new k ≡ bucket_of size word
now_of links new size at word k within is e =
    let here : k ≡ at = omega (arith, e) in
    let r : Link = record no_link { word = word } in
    rw here (ap (bucket_of size) (same_word new (set links at r) at (is ∙ sym (words_other links at r)) ∙ ap (λ (l : Link). l.word) (get_or-set_same links at r no_link within)))
