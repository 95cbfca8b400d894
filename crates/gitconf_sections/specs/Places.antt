-- A walk over the places of a word, along the chain of its bucket.
use Rattle.std.specs.Prelude.{◌≡◌, ℕ, ◌+◌, ◌-◌, ◌<◌, ◌≤◌, List, length}
use Rattle.gitconf_sections.specs.declared.index.Link.{Link}
use Rattle.gitconf_sections.specs.declared.index.Places.TheInside.{Inside}
use Rattle.gitconf_sections.specs.Links.{IsFirst, IsBehindLast, bucket_of, link_at, no_place, words_of}
use Rattle.gitconf_sections.specs.Words.{places_in}

-- the bucket of a place, of `size` buckets
abbrev pub bucket_at : ℕ → List Link → ℕ → ℕ
bucket_at size links k = bucket_of size (link_at links k).word

-- each place leads to its neighbors in its bucket, and while places are left both ends of the walk are in the word's bucket
pub record IsWalk (size : ℕ) (links : List Link) (word front behind : ℕ) : Type 0 where
  pub nexts : (k : ℕ) → k < length links → IsFirst (bucket_at size links) (bucket_at size links k) (k + 1) (length links) (link_at links k).next
  pub befores : (k : ℕ) → k < length links → IsBehindLast (bucket_at size links) (bucket_at size links k) k (link_at links k).before
  pub long : length links ≤ no_place
  pub within : behind ≤ length links
  pub front_is : front < behind → bucket_at size links front ≡ bucket_of size word
  pub back_is : (k : ℕ) → behind ≡ k + 1 → front < behind → bucket_at size links k ≡ bucket_of size word

-- the places that are left
abbrev pub left_of : Inside → List ℕ
left_of p = places_in (words_of p.links.now) p.word p.front (p.behind - p.front)

-- the walk is right for some number of buckets
abbrev pub IsPlaces : Inside → Type 0
IsPlaces p = (size : ℕ) × IsWalk size p.links.now p.word p.front p.behind
