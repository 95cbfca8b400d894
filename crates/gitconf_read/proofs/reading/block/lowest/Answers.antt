use Rattle.std.proofs.Common.{w64}
use Rattle.std.proofs.Math.Facts.{Fits-or, Fits-lit, Fits-lt-pow}
use Rattle.std.proofs.lemmas.Nat.Bits.{bit_at-trailing_zeros}
use Rattle.gitconf_read.proofs.Blocks.{lowest_below, lowest_within, not_empty}
use Rattle.gitconf_read.proofs.reading.block.lowest.Goals as goal

pub returns-clause-bound : goal.returns-clause-bound
returns-clause-bound c =
    let found = bit_at-trailing_zeros w64 _ (not_empty c.args.bits) (Fits-lt-pow (Fits-or c.ranges.bits (Fits-lit tt))) in
    lowest_within c.args.bits _ found.2

pub returns-clause-below : goal.returns-clause-below
returns-clause-below c =
    let found = bit_at-trailing_zeros w64 _ (not_empty c.args.bits) (Fits-lt-pow (Fits-or c.ranges.bits (Fits-lit tt))) in
    lowest_below c.args.bits _ found.2
