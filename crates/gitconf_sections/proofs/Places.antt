-- Steps of a walk over the places of a word.
use Rattle.std.proofs.Common.{◌≡◌, ◌≢◌, ℕ, ◌+◌, ◌-◌, ◌<◌, ◌≤◌, ◌==◌, ◌⊎◌, inl, inr, Bool, true, false, cond, refl, sym, ap, ◌∙◌, arith, zero, suc, List, [], ◌∷◌, ◌++◌, length, filter, slice_index, eqb-true, add-zero}
use Rattle.std.specs.List.{range_with_len}
use Rattle.std.proofs.lemmas.Bool.{cases_eq, cases_lt, eq-eqb}
use Rattle.std.proofs.lemmas.List.{append-nil, length-append, length-map}
use Rattle.std.proofs.lemmas.List.Elements.{filter-append}
use Rattle.std.proofs.Math.ListN.{get_or-map}
use Rattle.gitconf_sections.specs.declared.index.Link.{Link}
use Rattle.gitconf_sections.specs.declared.index.Bucket.{Bucket}
use Rattle.gitconf_sections.specs.Links.{AreLinked, bucket_of, ends_of, link_at, no_place, words_of}
use Rattle.gitconf_sections.specs.Words.{places_in, places_of}
use Rattle.gitconf_sections.specs.Places.{bucket_at, IsWalk}
use Rattle.gitconf_sections.proofs.LinkLemmas.{no_link, behind_within}

pub differs : (a b : ℕ) → a ≢ b → (a == b) ≡ false
differs a b n = go (a == b) refl
  where
    go : (t : Bool) → (a == b) ≡ t → (a == b) ≡ false
    go true e = absurd (n (eqb-true a b e))
    go false e = e

range_more : (a n : ℕ) → range_with_len a (suc n) ≡ range_with_len a n ++ (a + n) ∷ []
range_more a zero = rw add-zero refl
range_more a (suc n) = let sum : a + 1 + n ≡ a + suc n = omega arith in ap (λ r. a ∷ r) (range_more (a + 1) n ∙ ap (λ m. range_with_len (a + 1) n ++ m ∷ []) sum)

module _ (words : List ℕ) (word : ℕ) where
  places_more : (a n : ℕ) → places_in words word a (suc n) ≡ places_in words word a n ++ cond (slice_index words (a + n) == word) ((a + n) ∷ []) []
  places_more a n =
      ap (filter (λ at. slice_index words at == word)) (range_more a n)
      ∙ filter-append (λ at. slice_index words at == word) (range_with_len a n) ((a + n) ∷ [])

  -- places of other words in front are passed
  pub skip_front : (d a e : ℕ) → ((k : ℕ) → a ≤ k → k < e → k < a + d → slice_index words k ≢ word) → places_in words word a (e - a) ≡ places_in words word (a + d) (e - (a + d))
  skip_front zero a e none = rw add-zero refl
  skip_front (suc d) a e none = go (cases_lt a e) (skip_front d (a + 1) e (λ k l u under. none k (omega (arith, l)) u (omega (arith, under))))
    where
      go : (a < e) ⊎ (e ≤ a) → places_in words word (a + 1) (e - (a + 1)) ≡ places_in words word (a + 1 + d) (e - (a + 1 + d)) → places_in words word a (e - a) ≡ places_in words word (a + suc d) (e - (a + suc d))
      go (inl below) later =
          let count : e - a ≡ suc (e - (a + 1)) = omega (arith, below) in
          let sum : a + suc d ≡ a + 1 + d = omega arith in
          rw (count, sum, differs (slice_index words a) word (none a (omega arith) below (omega arith))) later
      go (inr past) later =
          let count : e - a ≡ 0 = omega (arith, past) in
          let other : e - (a + suc d) ≡ 0 = omega (arith, past) in
          rw (count, other) refl

  -- places of other words at the end are passed
  pub skip_back : (d a e : ℕ) → ((k : ℕ) → e ≤ k → k < e + d → a ≤ k → slice_index words k ≢ word) → places_in words word a (e + d - a) ≡ places_in words word a (e - a)
  skip_back zero a e none = rw add-zero refl
  skip_back (suc d) a e none = go (cases_lt (e + d) a) (skip_back d a e (λ k l u above. none k l (omega (arith, u)) above))
    where
      go : (e + d < a) ⊎ (a ≤ e + d) → places_in words word a (e + d - a) ≡ places_in words word a (e - a) → places_in words word a (e + suc d - a) ≡ places_in words word a (e - a)
      go (inl past) before =
          let count : e + suc d - a ≡ 0 = omega (arith, past) in
          let other : e - a ≡ 0 = omega (arith, past) in
          rw (count, other) refl
      go (inr within) before =
          let count : e + suc d - a ≡ suc (e + d - a) = omega (arith, within) in
          let last : a + (e + d - a) ≡ e + d = omega (arith, within) in
          rw count (places_more a (e + d - a) ∙ rw (last, differs (slice_index words (e + d)) word (none (e + d) (omega arith) (omega arith) within)) (append-nil (places_in words word a (e + d - a)) ∙ before))

pub word_is : (links : List Link) (k : ℕ) → slice_index (words_of links) k ≡ (link_at links k).word
word_is links k = get_or-map (λ (l : Link). l.word) links k no_link

-- a place of another bucket has another word
pub other_word : (size : ℕ) (links : List Link) (word b k : ℕ) → b ≡ bucket_of size word → bucket_at size links k ≢ b → slice_index (words_of links) k ≢ word
other_word size links word b k is other same = other (ap (bucket_of size) (sym (word_is links k) ∙ same) ∙ sym is)

module _ (size : ℕ) (links : List Link) (word front behind : ℕ) (h : IsWalk size links word front behind) (left : front < behind) where
  -- the next place of the bucket follows
  pub next_later : front < (link_at links front).next
  next_later = go (cases_eq (link_at links front).next no_place)
    where
      go : ((link_at links front).next ≡ no_place) ⊎ ((link_at links front).next ≢ no_place) → front < (link_at links front).next
      go (inl none) = let l = h.long in let w = h.within in omega (arith, none, left, l, w)
      go (inr stands) = let s = (h.nexts front (omega (arith, left, h.within))).stands stands in omega (arith, s.0)

  pub walk_front : IsWalk size links word (link_at links front).next behind
  walk_front =
      let chain = h.nexts front (omega (arith, left, h.within)) in
      record {
        nexts = h.nexts;
        befores = h.befores;
        long = h.long;
        within = h.within;
        front_is = λ more. (chain.stands (λ none. omega (arith, none, more, h.within, h.long))).2 ∙ h.front_is left;
        back_is = λ k e more. h.back_is k e left;
      }

  -- the first place is left out, or comes first
  pub left_front : places_in (words_of links) word front (behind - front)
      ≡ cond ((link_at links front).word == word) (front ∷ places_in (words_of links) word (link_at links front).next (behind - (link_at links front).next))
      (places_in (words_of links) word (link_at links front).next (behind - (link_at links front).next))
  left_front =
      let j = (link_at links front).next in
      let chain = h.nexts front (omega (arith, left, h.within)) in
      let count : behind - front ≡ suc (behind - (front + 1)) = omega (arith, left) in
      let d : front + 1 + (j - (front + 1)) ≡ j = omega (arith, next_later) in
      let skipped : places_in (words_of links) word (front + 1) (behind - (front + 1)) ≡ places_in (words_of links) word j (behind - j) =
      rw d at (skip_front (words_of links) word (j - (front + 1)) (front + 1) behind
      (λ k l u under. other_word size links word (bucket_at size links front) k (h.front_is left) (chain.passed k l (omega (arith, u, h.within)) (omega (arith, under, d))))) in
      rw (count, word_is links front, skipped) refl

module _ (size : ℕ) (links : List Link) (word front at : ℕ) (h : IsWalk size links word front (at + 1)) (left : front < at + 1) where
  before_within : (link_at links at).before ≤ at
  before_within = behind_within (bucket_at size links) (bucket_at size links at) at (link_at links at).before (h.befores at (omega (arith, h.within)))

  pub walk_back : IsWalk size links word front (link_at links at).before
  walk_back =
      let chain = h.befores at (omega (arith, h.within)) in
      record {
        nexts = h.nexts;
        befores = h.befores;
        long = h.long;
        within = omega (arith, before_within, h.within);
        front_is = λ more. h.front_is left;
        back_is = λ k e more. (chain.stands k e).1 ∙ h.back_is at (omega arith) left;
      }

  -- the last place is left out, or comes last
  pub left_back : places_in (words_of links) word front (at + 1 - front)
      ≡ places_in (words_of links) word front ((link_at links at).before - front) ++ cond ((link_at links at).word == word) (at ∷ []) []
  left_back =
      let e = (link_at links at).before in
      let chain = h.befores at (omega (arith, h.within)) in
      let count : at + 1 - front ≡ suc (at - front) = omega (arith, left) in
      let last : front + (at - front) ≡ at = omega (arith, left) in
      let d : e + (at - e) ≡ at = omega (arith, before_within) in
      let skipped : places_in (words_of links) word front (at - front) ≡ places_in (words_of links) word front (e - front) =
      rw d at (skip_back (words_of links) word (at - e) front e
      (λ k l u above. other_word size links word (bucket_at size links at) k (h.back_is at (omega arith) left) (chain.passed k l (omega (arith, u, d))))) in
      rw count (places_more (words_of links) word front (at - front) ∙ rw (last, word_is links at, skipped) refl)

-- if no place is left
pub left_none : (words : List ℕ) (word front behind : ℕ) → behind ≤ front → places_in words word front (behind - front) ≡ []
left_none words word front behind past = let count : behind - front ≡ 0 = omega (arith, past) in rw count refl

module _ (size : ℕ) (links : List Link) (word front behind : ℕ) (h : IsWalk size links word front behind) (left : front < behind) where
  pub left_taken : (link_at links front).word ≡ word
      → places_in (words_of links) word front (behind - front) ≡ front ∷ places_in (words_of links) word (link_at links front).next (behind - (link_at links front).next)
  left_taken same = left_front size links word front behind h left ∙ rw (eq-eqb _ _ same) refl

  pub left_passed : (link_at links front).word ≢ word
      → places_in (words_of links) word front (behind - front) ≡ places_in (words_of links) word (link_at links front).next (behind - (link_at links front).next)
  left_passed other = left_front size links word front behind h left ∙ rw (differs _ _ other) refl

module _ (size : ℕ) (links : List Link) (word front at behind : ℕ) (e : behind ≡ at + 1) (h : IsWalk size links word front behind) (left : front < behind) where
  pub walked_back : IsWalk size links word front (link_at links at).before
  walked_back = walk_back size links word front at (rw e at h) (omega (arith, e, left))

  pub back_taken : (link_at links at).word ≡ word
      → places_in (words_of links) word front (behind - front) ≡ places_in (words_of links) word front ((link_at links at).before - front) ++ at ∷ []
  back_taken same = rw e (left_back size links word front at (rw e at h) (omega (arith, e, left)) ∙ rw (eq-eqb _ _ same) refl)

  pub back_passed : (link_at links at).word ≢ word
      → places_in (words_of links) word front (behind - front) ≡ places_in (words_of links) word front ((link_at links at).before - front)
  back_passed other = rw e (left_back size links word front at (rw e at h) (omega (arith, e, left)) ∙ rw (differs _ _ other) (append-nil _))

  pub behind_less : (link_at links at).before < behind
  behind_less = let w = before_within size links word front at (rw e at h) (omega (arith, e, left)) in omega (arith, e, w)

-- one place fewer is left
pub fewer : (xs : List ℕ) (x : ℕ) → length xs < length (xs ++ x ∷ [])
fewer xs x = rw length-append (omega arith)

-- the walk from the first place of a bucket to its last one
pub whole_walk : (links : List Link) (buckets : List Bucket) (word b : ℕ) → AreLinked (length links) links buckets → length links ≤ no_place → b ≡ bucket_of (length buckets) word → b < length buckets
    → IsWalk (length buckets) links word (ends_of buckets b).first (ends_of buckets b).behind
whole_walk links buckets word b h long is within =
    let first = h.firsts b within in
    let last = h.lasts b within in
    record {
      nexts = h.nexts;
      befores = h.befores;
      long = long;
      within = behind_within (bucket_at (length buckets) links) b (length links) _ last;
      front_is = λ more. (first.stands (λ none. let w = behind_within (bucket_at (length buckets) links) b (length links) _ last in omega (arith, none, more, w, long))).2 ∙ is;
      back_is = λ k e more. (last.stands k e).1 ∙ is;
    }

-- it has all places of the word
pub whole_left : (links : List Link) (buckets : List Bucket) (word b : ℕ) → AreLinked (length links) links buckets → b ≡ bucket_of (length buckets) word → b < length buckets
    → places_in (words_of links) word (ends_of buckets b).first ((ends_of buckets b).behind - (ends_of buckets b).first) ≡ places_of word (words_of links)
whole_left links buckets word b h is within =
    let first = h.firsts b within in
    let last = h.lasts b within in
    let n = length links in
    let f = (ends_of buckets b).first in
    let e = (ends_of buckets b).behind in
    let w : e ≤ n = behind_within (bucket_at (length buckets) links) b n e last in
    let d : e + (n - e) ≡ n = omega (arith, w) in
    let zero_first : 0 + f ≡ f = omega arith in
    let all : n - 0 ≡ n = omega arith in
    let back : places_in (words_of links) word f (n - f) ≡ places_in (words_of links) word f (e - f) =
    rw d at (skip_back (words_of links) word (n - e) f e (λ k l u above. other_word (length buckets) links word b k is (last.passed k l (omega (arith, u, d))))) in
    let front : places_in (words_of links) word 0 n ≡ places_in (words_of links) word f (n - f) =
    rw (zero_first, all) at (skip_front (words_of links) word f 0 n (λ k l u under. other_word (length buckets) links word b k is (first.passed k l u (omega (arith, under))))) in
    let long : length (words_of links) ≡ n = length-map links (λ (l : Link). l.word) in
    rw long (sym (front ∙ back))
