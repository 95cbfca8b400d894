-- The chains of an index: a place has a bucket by its word, and leads to the next and to the previous place of its bucket.
use Rattle.std.specs.Prelude.{◌≡◌, ◌≢◌, ℕ, ◌+◌, ◌-◌, ◌<◌, ◌≤◌, List, map, length}
use Rattle.std.specs.Int.Bits.{bit_and}
use Rattle.std.specs.List.{slice_index_or}
use Rattle.gitconf_sections.specs.declared.index.Link.{Link}
use Rattle.gitconf_sections.specs.declared.index.Bucket.{Bucket}

-- stands for no place in `next` and `first`; so there are at most that many links
abbrev pub no_place : ℕ
no_place = 4294967295

-- the first place of the bucket that is not before `from` and below `count`, or `no_place`
pub record IsFirst (bucket_at : ℕ → ℕ) (bucket from count place : ℕ) : Type 0 where
  pub passed : (k : ℕ) → from ≤ k → k < count → k < place → bucket_at k ≢ bucket
  pub stands : place ≢ no_place → (from ≤ place) × (place < count) × (bucket_at place ≡ bucket)

-- directly after the last place of the bucket below `count`, or 0
pub record IsBehindLast (bucket_at : ℕ → ℕ) (bucket count behind : ℕ) : Type 0 where
  pub passed : (k : ℕ) → behind ≤ k → k < count → bucket_at k ≢ bucket
  pub stands : (k : ℕ) → behind ≡ k + 1 → (k < count) × (bucket_at k ≡ bucket)

-- each of the first `count` places has the next and the previous one of its bucket, and each bucket has its first and its last one
pub record AreChained (bucket_at first behind next before : ℕ → ℕ) (size count : ℕ) : Type 0 where
  pub firsts : (b : ℕ) → b < size → IsFirst bucket_at b 0 count (first b)
  pub lasts : (b : ℕ) → b < size → IsBehindLast bucket_at b count (behind b)
  pub nexts : (k : ℕ) → k < count → IsFirst bucket_at (bucket_at k) (k + 1) count (next k)
  pub befores : (k : ℕ) → k < count → IsBehindLast bucket_at (bucket_at k) k (before k)

-- the link at a place
abbrev pub link_at : List Link → ℕ → Link
link_at links k = slice_index_or links k (record { word = 0; next = 0; before = 0 })

-- the first place of a bucket, and one more than its last one
abbrev pub ends_of : List Bucket → ℕ → Bucket
ends_of buckets b = slice_index_or buckets b (record { first = 0; behind = 0 })

-- the words of the links, in the order of their places
abbrev pub words_of : List Link → List ℕ
words_of links = map (λ l. l.word) links

-- the bucket of a word, of `size` buckets
abbrev pub bucket_of : ℕ → ℕ → ℕ
bucket_of size word = bit_and word (size - 1)

-- the first `count` links are chained in the buckets
abbrev pub AreLinked : ℕ → List Link → List Bucket → Type 0
AreLinked count links buckets =
    AreChained (λ k. bucket_of (length buckets) (link_at links k).word) (λ b. (ends_of buckets b).first) (λ b. (ends_of buckets b).behind)
    (λ k. (link_at links k).next) (λ k. (link_at links k).before) (length buckets) count

-- no bucket has a place
abbrev pub AreEmpty : List Bucket → Type 0
AreEmpty buckets = (b : ℕ) → b < length buckets → ends_of buckets b ≡ record { first = no_place; behind = 0 }

-- the link before `behind`, if there is one, leads on to the place, and the others stay
pub record IsLed (old : List Link) (behind place : ℕ) (new : List Link) : Type 0 where
  pub words : (k : ℕ) → (link_at new k).word ≡ (link_at old k).word
  pub befores : (k : ℕ) → (link_at new k).before ≡ (link_at old k).before
  pub next : (k : ℕ) → behind ≡ k + 1 → (link_at new k).next ≡ place
  pub others : (k : ℕ) → behind ≢ k + 1 → (link_at new k).next ≡ (link_at old k).next
