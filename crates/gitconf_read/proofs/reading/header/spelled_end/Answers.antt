use Rattle.std.proofs.Common.{◌∙◌, ◌+◌, ◌≤◌, length, arith}
use Rattle.gitconf_read.proofs.Spelled.{spelled_many, spelled_step}
use Rattle.gitconf_read.proofs.reading.header.spelled_end.Goals as goal

pub loop-i-init : goal.loop-i-init
loop-i-init c = (omega arith, omega (arith, c.requires.within), spelled_step _ _ c.requires.within c.requires.spelled)

pub returns-then-front-lt-BLOCK-clause-goes_on : goal.returns-then-front-lt-BLOCK-clause-goes_on
returns-then-front-lt-BLOCK-clause-goes_on c = c.loop-i.invariant.2 ∙ spelled_many _ _ _ (omega (arith, c.loop-i-test.true, c.spelled_front-front.ensures.bound)) c.spelled_front-front.ensures.spelled

pub loop-i-preserved : goal.loop-i-preserved
loop-i-preserved c =
    let within : c.loop-i.i + c.spelled_front-front.result ≤ length c.args.input.now = omega (arith, c.loop-i-test.true, c.spelled_front-front.ensures.bound) in
    (omega (arith, c.loop-i.invariant.0), within, c.loop-i.invariant.2 ∙ spelled_many _ _ _ within c.spelled_front-front.ensures.spelled)
