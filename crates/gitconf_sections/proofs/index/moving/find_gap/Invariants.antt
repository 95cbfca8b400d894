use Rattle.std.proofs.Common.{◌≡◌, ℕ, ◌+◌, ◌-◌, ◌≤◌, length}
use Rattle.gitconf_sections.specs.Links.{IsFirst}
use Rattle.gitconf_sections.specs.Places.{bucket_at}
use Rattle.gitconf_sections.proofs.index.moving.find_gap.Given as goal

-- the walk follows a place of the bucket, or at its front, and knows the next one
abbrev pub invariant-loop-next : goal.invariant-loop-next
invariant-loop-next l = record {
  before : l.behind ≤ l.at;
  is : (k : ℕ) → l.behind ≡ k + 1 → bucket_at (length l.buckets) l.links k ≡ l.bucket;
  next : IsFirst (bucket_at (length l.buckets) l.links) l.bucket l.behind (length l.links) l.next;
}

abbrev pub decreases-loop-next : goal.decreases-loop-next
decreases-loop-next l = l.at - l.next
