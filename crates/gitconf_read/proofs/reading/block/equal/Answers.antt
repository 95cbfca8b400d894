use Rattle.std.proofs.Common.{eqb}
use Rattle.gitconf_read.proofs.Blocks.{lane_fails}
use Rattle.gitconf_read.proofs.reading.block.equal.Goals as goal

pub returns : goal.returns
returns c = λ k l zero. lane_fails eqb c.args.bytes c.args.byte k c.fits-bytes.0 l zero
