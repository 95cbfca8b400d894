use Rattle.std.proofs.Common.{◌∙◌, ◌+◌, ◌≤◌, ◌<◌, length, arith, ap, not, sym}
use Rattle.gitconf_read.proofs.Fours.{empty_run}
use Rattle.gitconf_read.proofs.Runs.{end_of_run_step}
use Rattle.gitconf_read.proofs.Spelled.{comment_many}
use Rattle.gitconf_read.proofs.reading.run.comment_end.Goals as goal

pub returns-then-is_line_end-clause-end : goal.returns-then-is_line_end-clause-end
returns-then-is_line_end-clause-end c =
    let within : c.loop-i.i + c.line_front-front.result ≤ length c.args.input.now = omega (arith, c.loop-i-test.true, c.line_front-front.ensures.bound) in
    sym (empty_run _ _ _ (ap not (sym c.is_line_end.ensures ∙ c.if-is_line_end.true)))
    ∙ sym (comment_many _ _ _ within c.line_front-front.ensures.no_lf c.line_front-front.ensures.no_cr)
    ∙ c.loop-i.invariant.2

pub loop-i-preserved-then-front-lt-BLOCK : goal.loop-i-preserved-then-front-lt-BLOCK
loop-i-preserved-then-front-lt-BLOCK c =
    let within : c.loop-i.i + c.line_front-front.result ≤ length c.args.input.now = omega (arith, c.loop-i-test.true, c.line_front-front.ensures.bound) in
    let here : c.loop-i.i + c.line_front-front.result < length c.args.input.now = omega (arith, c.loop-i-test.true, c.if-front-lt-BLOCK.true) in (
      omega (arith, c.loop-i.invariant.0),
      omega (arith, c.loop-i-test.true, c.if-front-lt-BLOCK.true),
      sym (end_of_run_step _ _ _ here (ap not (sym c.is_line_end.ensures ∙ c.if-is_line_end.false)))
          ∙ sym (comment_many _ _ _ within c.line_front-front.ensures.no_lf c.line_front-front.ensures.no_cr)
          ∙ c.loop-i.invariant.2,
    )

pub loop-i-preserved : goal.loop-i-preserved
loop-i-preserved c =
    let within : c.loop-i.i + c.line_front-front.result ≤ length c.args.input.now = omega (arith, c.loop-i-test.true, c.line_front-front.ensures.bound) in
    (omega (arith, c.loop-i.invariant.0), within, sym (comment_many _ _ _ within c.line_front-front.ensures.no_lf c.line_front-front.ensures.no_cr) ∙ c.loop-i.invariant.2)
