use Rattle.std.proofs.Common.{leb, arith}
use Rattle.std.proofs.lemmas.Bool.{leb-false}
use Rattle.gitconf_read.proofs.Blocks.{lane_fails}
use Rattle.gitconf_read.proofs.reading.block.at_most.Goals as goal

pub returns : goal.returns
returns c = λ k l zero. omega (arith, leb-false _ _ (lane_fails leb c.args.bytes c.args.byte k c.fits-bytes.0 l zero))
