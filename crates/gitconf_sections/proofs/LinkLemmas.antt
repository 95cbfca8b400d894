-- Links and buckets as the chains of their places.
use Rattle.std.proofs.Common.{◌≡◌, ◌≢◌, ℕ, ◌+◌, ◌-◌, ◌<◌, ◌≤◌, ◌⊎◌, inl, inr, refl, sym, ap, subst, ◌∙◌, arith, min, zero, suc, List, [], ◌∷◌, ◌++◌, length, set, take, drop, remove}
use Rattle.std.proofs.lemmas.Bool.{cases_eq}
use Rattle.std.proofs.lemmas.List.{get_or-set_same, get_or-set_other, get_or_append_left, length-set}
use Rattle.std.proofs.lemmas.List.{map-append, take-map, drop-map}
use Rattle.std.proofs.Math.Seq.{map-set_same, take-append_seam}
use Rattle.gitconf_sections.specs.declared.index.Link.{Link}
use Rattle.gitconf_sections.specs.declared.index.Bucket.{Bucket}
use Rattle.gitconf_sections.specs.Links.{IsFirst, IsBehindLast, AreChained, AreEmpty, AreLinked, IsLed, bucket_of, ends_of, link_at, no_place, words_of}
use Rattle.gitconf_sections.proofs.Chains.{chain_more}

abbrev pub no_link : Link
no_link = record { word = 0; next = 0; before = 0 }

abbrev pub no_ends : Bucket
no_ends = record { first = 0; behind = 0 }

-- what follows the last place of a bucket follows no more than all places
pub behind_within : (g : ℕ → ℕ) (b n behind : ℕ) → IsBehindLast g b n behind → behind ≤ n
behind_within g b n zero h = omega arith
behind_within g b n (suc k) h = let s = (h.stands k (omega arith)).0 in omega (arith, s)

-- nothing is led on from if nothing comes before
pub led_none : (links : List Link) (behind at : ℕ) → behind ≤ 0 → IsLed links behind at links
led_none links behind at none = record {
  words = λ k. refl;
  befores = λ k. refl;
  next = λ k e. absurd (omega (arith, none, e));
  others = λ k e. refl;
}

-- a link that is replaced: what f shows of each
pub shown_set : {B : Type 0} (f : Link → B) (links : List Link) (i k : ℕ) (new : Link) → f new ≡ f (link_at links i) → (k ≡ i) ⊎ (k ≢ i) → i < length links → f (link_at (set links i new) k) ≡ f (link_at links k)
shown_set f links i k new e (inl same) within = rw (same, get_or-set_same links i new no_link within) e
shown_set f links i k new e (inr other) within = rw (get_or-set_other links i k new no_link other) refl

pub led_some : (links : List Link) (behind at : ℕ) → 0 < behind → behind - 1 < length links → IsLed links behind at (set links (behind - 1) (record (link_at links (behind - 1)) { next = at }))
led_some links behind at some within = record {
  words = λ k. shown_set (λ l. l.word) links (behind - 1) k _ refl (cases_eq k (behind - 1)) within;
  befores = λ k. shown_set (λ l. l.before) links (behind - 1) k _ refl (cases_eq k (behind - 1)) within;
  next = λ k e. let same : k ≡ behind - 1 = omega (arith, e) in rw (same, get_or-set_same links (behind - 1) _ no_link within) refl;
  others = λ k e. rw (get_or-set_other links (behind - 1) k _ no_link (λ same. e (omega (arith, same, some)))) refl;
}

-- one more link in its chain
linked_at : (links led : List Link) (buckets : List Bucket) (at m : ℕ) → at < length links → length led ≡ length links → length links ≤ no_place
    → bucket_of (length buckets) (link_at links at).word < length buckets → m ≡ min (ends_of buckets (bucket_of (length buckets) (link_at links at).word)).first at
    → IsLed links (ends_of buckets (bucket_of (length buckets) (link_at links at).word)).behind at led → AreLinked at links buckets
    → AreLinked (at + 1) (set led at (record { word = (link_at links at).word; next = no_place; before = (ends_of buckets (bucket_of (length buckets) (link_at links at).word)).behind }))
    (set buckets (bucket_of (length buckets) (link_at links at).word) (record { first = m; behind = at + 1 }))
linked_at links led buckets at m within long fits inside least l h =
    let b = bucket_of (length buckets) (link_at links at).word in
    let new_ends : Bucket = record { first = m; behind = at + 1 } in
    let new : Link = record { word = (link_at links at).word; next = no_place; before = (ends_of buckets b).behind } in
    let there : at < length led = omega (arith, long, within) in
    let words : (k : ℕ) → (link_at links k).word ≡ (link_at (set led at new) k).word = λ k. sym (shown_set (λ l. l.word) led at k new (sym (l.words at)) (cases_eq k at) there ∙ l.words k) in
    let sizes : length buckets ≡ length (set buckets b new_ends) = sym (length-set buckets b new_ends) in
    let chained = chain_more (λ k. bucket_of (length buckets) (link_at links k).word)
    (λ b. (ends_of buckets b).first) (λ b. (ends_of buckets b).behind) (λ k. (link_at links k).next) (λ k. (link_at links k).before)
    (λ k. (ends_of (set buckets b new_ends) k).first) (λ k. (ends_of (set buckets b new_ends) k).behind) (λ k. (link_at (set led at new) k).next) (λ k. (link_at (set led at new) k).before)
    (length buckets) at (omega (arith, within, fits)) h inside
    (ap (λ (e : Bucket). e.first) (get_or-set_same buckets b new_ends no_ends inside) ∙ least)
    (λ i other. ap (λ (e : Bucket). e.first) (get_or-set_other buckets b i new_ends no_ends other))
    (ap (λ (e : Bucket). e.behind) (get_or-set_same buckets b new_ends no_ends inside))
    (λ i other. ap (λ (e : Bucket). e.behind) (get_or-set_other buckets b i new_ends no_ends other))
    (ap (λ (e : Link). e.next) (get_or-set_same led at new no_link there))
    (λ k below e. ap (λ (e : Link). e.next) (get_or-set_other led at k new no_link (λ same. omega (arith, same, below))) ∙ l.next k e)
    (λ k below e. ap (λ (e : Link). e.next) (get_or-set_other led at k new no_link (λ same. omega (arith, same, below))) ∙ l.others k e)
    (ap (λ (e : Link). e.before) (get_or-set_same led at new no_link there))
    (λ k below. ap (λ (e : Link). e.before) (get_or-set_other led at k new no_link (λ same. omega (arith, same, below))) ∙ l.befores k) in
    let Chained : (ℕ → ℕ) → ℕ → Type 0 = λ g size. AreChained g (λ k. (ends_of (set buckets b new_ends) k).first) (λ k. (ends_of (set buckets b new_ends) k).behind)
    (λ k. (link_at (set led at new) k).next) (λ k. (link_at (set led at new) k).before) size (at + 1) in
    subst (λ size. Chained (λ k. bucket_of size (link_at (set led at new) k).word) size) sizes
    (subst (λ g. Chained g (length buckets)) (λ j k. bucket_of (length buckets) (words k j)) chained)

pub linked_more : (links led : List Link) (buckets : List Bucket) (at b m : ℕ) → at < length links → length led ≡ length links → length links ≤ no_place
    → b ≡ bucket_of (length buckets) (link_at links at).word → b < length buckets → m ≡ min (ends_of buckets b).first at
    → IsLed links (ends_of buckets b).behind at led → AreLinked at links buckets
    → AreLinked (at + 1) (set led at (record { word = (link_at links at).word; next = no_place; before = (ends_of buckets b).behind }))
    (set buckets b (record { first = m; behind = at + 1 }))
linked_more links led buckets at b m within long fits is =
    subst (λ b. b < length buckets → m ≡ min (ends_of buckets b).first at → IsLed links (ends_of buckets b).behind at led → AreLinked at links buckets
    → AreLinked (at + 1) (set led at (record { word = (link_at links at).word; next = no_place; before = (ends_of buckets b).behind })) (set buckets b (record { first = m; behind = at + 1 })))
    (sym is) (λ inside least l h. linked_at links led buckets at m within long fits inside least l h)

-- the words stay where a link is replaced by one of the same word
pub words_set : (links : List Link) (i : ℕ) (new : Link) → new.word ≡ (link_at links i).word → words_of (set links i new) ≡ words_of links
words_set links i new e = map-set_same (λ l. l.word) links i new no_link e

-- empty buckets have no places in their chains
pub linked_none : (links : List Link) (buckets : List Bucket) → AreEmpty buckets → AreLinked 0 links buckets
linked_none links buckets empty = record {
  firsts = λ b within. rw (empty b within) (record {
    passed = λ k l u under. absurd (omega (arith, u));
    stands = λ stands. absurd (stands refl);
  });
  lasts = λ b within. rw (empty b within) (record {
    passed = λ k l u. absurd (omega (arith, u));
    stands = λ k e. absurd (omega (arith, e));
  });
  nexts = λ k within. absurd (omega (arith, within));
  befores = λ k within. absurd (omega (arith, within));
}

-- a list that was lent as a whole is what it was left as
pub whole_again : (n : ℕ) (new items : List Link) → n ≡ length items → length new ≡ length items → take n (new ++ drop (length new) items) ≡ new
whole_again n new items e same =
    let whole : n ≡ length new = omega (arith, e, same) in
    rw whole (take-append_seam new (drop (length new) items))

pub words_out : (links : List Link) (at : ℕ) → words_of (remove links at) ≡ remove (words_of links) at
words_out links at =
    map-append (λ (l : Link). l.word) (take at links) (drop (suc at) links)
    ∙ (λ j. sym (take-map (λ (l : Link). l.word) at links) j ++ sym (drop-map (λ (l : Link). l.word) (suc at) links) j)

-- the same buckets of the first places
first_along : (g g' : ℕ → ℕ) (b a n j : ℕ) → ((k : ℕ) → k < n → g k ≡ g' k) → IsFirst g b a n j → IsFirst g' b a n j
first_along g g' b a n j same h = record {
  passed = λ k l u under e. h.passed k l u under (same k u ∙ e);
  stands = λ stands. let s = h.stands stands in (s.0, s.1, sym (same j s.1) ∙ s.2);
}

behind_along : (g g' : ℕ → ℕ) (b n m e : ℕ) → m ≤ n → ((k : ℕ) → k < n → g k ≡ g' k) → IsBehindLast g b m e → IsBehindLast g' b m e
behind_along g g' b n m e within same h = record {
  passed = λ k l u is. h.passed k l u (same k (omega (arith, u, within)) ∙ is);
  stands = λ k is. let s = h.stands k is in (s.0, sym (same k (omega (arith, s.0, within))) ∙ s.1);
}

-- one more link after the others leaves their chains
pub linked_along : (n : ℕ) (links more : List Link) (buckets : List Bucket) → ((k : ℕ) → k < n → link_at links k ≡ link_at more k) → AreLinked n links buckets → AreLinked n more buckets
linked_along n links more buckets same h =
    let g : ℕ → ℕ = λ k. bucket_of (length buckets) (link_at links k).word in
    let g' : ℕ → ℕ = λ k. bucket_of (length buckets) (link_at more k).word in
    let along : (k : ℕ) → k < n → g k ≡ g' k = λ k l. ap (λ (r : Link). bucket_of (length buckets) r.word) (same k l) in
    record {
      firsts = λ b within. first_along g g' b 0 n _ along (h.firsts b within);
      lasts = λ b within. behind_along g g' b n n _ (omega arith) along (h.lasts b within);
      nexts = λ k within. rw (← same k within) (first_along g g' (g k) (k + 1) n _ along (h.nexts k within));
      befores = λ k within. rw (← same k within) (behind_along g g' (g k) n k _ (omega (arith, within)) along (h.befores k within));
    }

-- links that are put after all others leave their chains
pub linked_behind : (links added : List Link) (buckets : List Bucket) → AreLinked (length links) links buckets → AreLinked (length links) (links ++ added) buckets
linked_behind links added buckets h = linked_along (length links) links (links ++ added) buckets (λ k below. sym (get_or_append_left links added no_link k below)) h

-- another link in place of one
pub words_other : (links : List Link) (at : ℕ) (l : Link) → words_of (set links at l) ≡ set (words_of links) at l.word
words_other [] at l = refl
words_other (x ∷ links) zero l = refl
words_other (x ∷ links) (suc at) l = ap (λ r. x.word ∷ r) (words_other links at l)
