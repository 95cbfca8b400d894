use Rattle.std.proofs.Common.{arith, subst, ◌≡◌, ◌<◌, false, ◌==◌}
use Rattle.gitconf_read.proofs.Blocks.{both_clear}
use Rattle.gitconf_read.proofs.reading.block.line_front.Goals as goal

pub returns-clause-no_lf : goal.returns-clause-no_lf
returns-clause-no_lf c = λ k l.
    let within : k < 16 = omega (arith, l, c.lowest.ensures.bound) in
    let clear = both_clear _ _ k (c.lowest.ensures.below k l) in
    subst (λ b. (b == 10) ≡ false) (c.bytes_at-bytes.ensures k within) (c.equal-2.ensures k within clear.1)

pub returns-clause-no_cr : goal.returns-clause-no_cr
returns-clause-no_cr c = λ k l.
    let within : k < 16 = omega (arith, l, c.lowest.ensures.bound) in
    let clear = both_clear _ _ k (c.lowest.ensures.below k l) in
    subst (λ b. (b == 13) ≡ false) (c.bytes_at-bytes.ensures k within) (c.equal.ensures k within clear.0)
