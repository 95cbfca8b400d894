-- Places that move from one chain to another: in between, one is in no chain.
use Rattle.std.specs.Prelude.{◌≡◌, ◌≢◌, ◌==◌, ◌⊎◌, ℕ, ◌+◌, ◌<◌, ◌≤◌, List, length, if◌then◌else◌}
use Rattle.gitconf_sections.specs.declared.index.Link.{Link}
use Rattle.gitconf_sections.specs.declared.index.Bucket.{Bucket}
use Rattle.gitconf_sections.specs.Links.{IsFirst, IsBehindLast, bucket_of, ends_of, link_at}

-- all `count` places but one are chained
pub record AreChainedBut (out : ℕ) (bucket_at first behind next before : ℕ → ℕ) (size count : ℕ) : Type 0 where
  pub firsts : (b : ℕ) → b < size → IsFirst bucket_at b 0 count (first b)
  pub lasts : (b : ℕ) → b < size → IsBehindLast bucket_at b count (behind b)
  pub nexts : (k : ℕ) → k < count → k ≢ out → IsFirst bucket_at (bucket_at k) (k + 1) count (next k)
  pub befores : (k : ℕ) → k < count → k ≢ out → IsBehindLast bucket_at (bucket_at k) k (before k)

-- the bucket of a place, of `size` buckets; the place that is in no chain has the number `size`, which no word has
abbrev pub bucket_but : (size out : ℕ) → List Link → ℕ → ℕ
bucket_but size out links k = if k == out then size else bucket_of size (link_at links k).word

-- all links but one are chained in the buckets
abbrev pub AreLinkedBut : (out : ℕ) → List Link → List Bucket → Type 0
AreLinkedBut out links buckets =
    AreChainedBut out (bucket_but (length buckets) out links) (λ b. (ends_of buckets b).first) (λ b. (ends_of buckets b).behind)
    (λ k. (link_at links k).next) (λ k. (link_at links k).before) (length buckets) (length links)

-- if nothing comes before `behind`, the bucket leads on to the place; otherwise the buckets stay
pub record LeadsOn (old : List Bucket) (bucket behind place : ℕ) (new : List Bucket) : Type 0 where
  pub behinds : (b : ℕ) → (ends_of new b).behind ≡ (ends_of old b).behind
  pub first : behind ≡ 0 → (ends_of new bucket).first ≡ place
  pub others : (b : ℕ) → (b ≢ bucket) ⊎ (behind ≢ 0) → (ends_of new b).first ≡ (ends_of old b).first

-- the link at a place, if there is one, leads back to what comes before `behind`, and the others stay
pub record IsLedBack (old : List Link) (place behind : ℕ) (new : List Link) : Type 0 where
  pub nexts : (k : ℕ) → (link_at new k).next ≡ (link_at old k).next
  pub before : place < length old → (link_at new place).before ≡ behind
  pub others : (k : ℕ) → k ≢ place → (link_at new k).before ≡ (link_at old k).before

-- if the place is not among `count`, the bucket leads back to what comes before `behind`; otherwise the buckets stay
pub record LeadsBack (old : List Bucket) (bucket count place behind : ℕ) (new : List Bucket) : Type 0 where
  pub firsts : (b : ℕ) → (ends_of new b).first ≡ (ends_of old b).first
  pub behind_it : count ≤ place → (ends_of new bucket).behind ≡ behind
  pub others : (b : ℕ) → (b ≢ bucket) ⊎ (place < count) → (ends_of new b).behind ≡ (ends_of old b).behind
