use Rattle.std.proofs.Common.{◌∙◌, ◌+◌, ◌≤◌, length, arith}
use Rattle.gitconf_read.proofs.Plain.{plain_goes_on, plain_many, plain_step}
use Rattle.gitconf_read.proofs.reading.value.plain_end.Goals as goal

pub loop-i-init : goal.loop-i-init
loop-i-init c = (omega arith, omega (arith, c.requires.within), λ kept quoted. plain_step _ _ kept quoted c.requires.within c.requires.plain)

pub returns-then-front-lt-BLOCK-clause-goes_on : goal.returns-then-front-lt-BLOCK-clause-goes_on
returns-then-front-lt-BLOCK-clause-goes_on c = λ kept quoted.
    c.loop-i.invariant.2 kept quoted ∙ plain_many _ _ _ quoted (omega (arith, c.loop-i-test.true, c.plain_front-front.ensures.bound)) c.plain_front-front.ensures.plain

pub loop-i-preserved : goal.loop-i-preserved
loop-i-preserved c =
    let within : c.loop-i.i + c.plain_front-front.result ≤ length c.args.input.now = omega (arith, c.loop-i-test.true, c.plain_front-front.ensures.bound) in
    (omega (arith, c.loop-i.invariant.0), within, λ kept quoted. c.loop-i.invariant.2 kept quoted ∙ plain_many _ _ _ quoted within c.plain_front-front.ensures.plain)

pub returns-clause-goes_on : goal.returns-clause-goes_on
returns-clause-goes_on c = λ kept quoted. rw c.run_end.ensures.end (c.loop-i.invariant.2 kept quoted ∙ plain_goes_on c.args.input.now c.loop-i.i quoted)
