use Rattle.std.proofs.Common.{arith, subst, ◌≡◌, ◌<◌, false, ◌==◌}
use Rattle.gitconf_read.proofs.Blocks.{both_clear, spelled_is}
use Rattle.gitconf_read.proofs.reading.block.spelled_front.Goals as goal

pub returns-clause-spelled : goal.returns-clause-spelled
returns-clause-spelled c = λ k l.
    let within : k < 16 = omega (arith, l, c.lowest.ensures.bound) in
    let clear = both_clear _ _ k (c.lowest.ensures.below k l) in
    let first = both_clear _ _ k clear.0 in
    let there = c.bytes_at-bytes.ensures k within in
    spelled_is _ ((c.type_inv.input _).fits)
    (subst (λ b. (b == 34) ≡ false) there (c.equal.ensures k within first.0))
    (subst (λ b. (b == 92) ≡ false) there (c.equal-2.ensures k within first.1))
    (subst (λ b. (b == 10) ≡ false) there (c.equal-3.ensures k within clear.1))
