use Rattle.std.proofs.Common.{◌≡◌, ℕ, ◌+◌, ◌<◌, length}
use Rattle.std.specs.List.{AllByRecursion}
use Rattle.gitconf_sections.specs.Links.{bucket_of, words_of, AreLinked}
use Rattle.gitconf_sections.specs.Words.{set_each}
use Rattle.gitconf_sections.specs.Places.{bucket_at}
use Rattle.gitconf_sections.proofs.index.moving.move_places.Given as goal

-- the places that are left are set as all are, and the one before has its new bucket
abbrev pub invariant-loop-at : goal.invariant-loop-at
invariant-loop-at l = record {
  words : set_each (words_of l.links) l.rest l.word ≡ set_each (words_of l.fn.links) l.fn.places l.word;
  within : AllByRecursion (λ at. at < length (words_of l.fn.links)) l.rest;
  long : length l.links ≡ length l.fn.links;
  linked : AreLinked (length l.fn.links) l.links l.buckets;
  some : 0 < length l.buckets;
  from : (k : ℕ) → l.from ≡ k + 1 → bucket_at (length l.buckets) l.links k ≡ bucket_of (length l.buckets) l.word;
}

abbrev pub decreases-loop-at : goal.decreases-loop-at
decreases-loop-at l = length l.rest
