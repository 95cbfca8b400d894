use Rattle.std.proofs.Common.{◌≡◌, ℕ, ◌<◌}
use Rattle.gitconf_sections.specs.Links.{ends_of, no_place}
use Rattle.gitconf_sections.proofs.index.relink.Given as goal

abbrev pub invariant-loop-bucket : goal.invariant-loop-bucket
invariant-loop-bucket l = (k : ℕ) → k < l.bucket-index → ends_of l.buckets k ≡ record { first = no_place; behind = 0 }
