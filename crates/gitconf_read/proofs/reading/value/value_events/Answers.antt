use Rattle.std.proofs.Common.{◌∙◌, sym, arith}
use Rattle.gitconf_read.proofs.Pieces.{span_is, value_goes}
use Rattle.gitconf_read.proofs.reading.value.value_events.Goals as goal

pub returns-in_ok-push-in-Last-clause-gives : goal.returns-in_ok-push-in-Last-clause-gives
returns-in_ok-push-in-Last-clause-gives c =
    let read = value_goes _ _ _ _ _ _ _ _ c.loop-end.invariant.2 (sym c.piece_end.ensures.told ∙ c.in-Last.is) in
    rw (c.in_ok-push-in-Last.ensures, span_is _ _ _ c.between-last.ensures.start c.between-last.ensures.len) (rw c.if-joined.true at read)

pub returns-in_ok-push-in-Last-2-clause-gives : goal.returns-in_ok-push-in-Last-2-clause-gives
returns-in_ok-push-in-Last-2-clause-gives c =
    let read = value_goes _ _ _ _ _ _ _ _ c.loop-end.invariant.2 (sym c.piece_end.ensures.told ∙ c.in-Last.is) in
    rw (c.in_ok-push-in-Last-2.ensures, span_is _ _ _ c.between-last.ensures.start c.between-last.ensures.len) (rw c.if-joined.false at read)

pub loop-end-preserved : goal.loop-end-preserved
loop-end-preserved c =
    let read = value_goes _ _ _ _ _ _ _ _ c.loop-end.invariant.2 (sym c.piece_end.ensures.told ∙ c.in-GoesOn.is) in
    let ordered = c.loop-end.invariant.0 in
    let ahead = c.in-GoesOn.ensures.ends.0 in
    rw (c.in_ok-from-in-GoesOn.ensures.end, c.in_ok-from-in-GoesOn.ensures.events) (omega (arith, ordered, ahead), c.in-GoesOn.ensures.ends.2, sym read)

pub returns-in-Unended-clause-gives : goal.returns-in-Unended-clause-gives
returns-in-Unended-clause-gives c =
    let read = value_goes _ _ _ _ _ _ _ _ c.loop-end.invariant.2 (sym c.piece_end.ensures.told ∙ c.in-Unended.is) in
    rw (
      c.in_ok-push-in-Unended-2.ensures,
      c.in_ok-push-in-Unended.ensures,
      span_is _ _ _ c.between.ensures.start c.between.ensures.len,
      span_is _ _ _ c.between-in-Unended.ensures.start c.between-in-Unended.ensures.len,
    ) read

pub returns-in-Refused-clause-gives : goal.returns-in-Refused-clause-gives
returns-in-Refused-clause-gives c = value_goes _ _ _ _ _ _ _ _ c.loop-end.invariant.2 (sym c.piece_end.ensures.told ∙ c.in-Refused.is)
