use Rattle.std.proofs.Common.{◌∙◌, sym, arith, length}
use Rattle.gitconf_items.specs.ItemsFit.{PieceFits}
use Rattle.gitconf_read.proofs.ItemReading.{all_put, piece_more, value_ended, value_refused, value_unended}
use Rattle.gitconf_read.proofs.Pieces.{span_is}
use Rattle.gitconf_read.proofs.reading.item.value.Goals as goal

pub returns-in-Last-clause-found : goal.returns-in-Last-clause-found
returns-in-Last-clause-found c =
    rw (span_is _ _ _ c.between-last.ensures.start c.between-last.ensures.len) (value_ended _ _ _ _ _ _ c.loop-end.invariant.read (sym c.piece_end.ensures.told ∙ c.in-Last.is))

pub loop-end-preserved : goal.loop-end-preserved
loop-end-preserved c =
    let ends = c.in-GoesOn.ensures.ends in
    let ordered = c.loop-end.invariant.ordered.0 in
    let start = c.between.ensures.start in
    let len = c.between.ensures.len in
    let behind = c.between-in-GoesOn.ensures.start in
    let line_end = c.between-in-GoesOn.ensures.len in
    record {
      ordered = (let ahead = ends.0 in omega (arith, ordered, ahead), ends.2);
      read = rw (c.in_ok-push-in-GoesOn.ensures.ok, span_is _ _ _ start len, span_is _ _ _ behind line_end)
          (piece_more _ _ _ _ _ _ _ _ c.loop-end.invariant.read (sym c.piece_end.ensures.told ∙ c.in-GoesOn.is) ends.1 ends.2);
      pieces = rw c.in_ok-push-in-GoesOn.ensures.ok
          (all_put (PieceFits (length c.args.input.now)) _ (let ahead = ends.0 in let within = ends.2 in (omega (arith, start, len, ahead, within), omega (arith, behind, line_end, within))) _ c.loop-end.invariant.pieces);
    }

pub returns-in-Unended-clause-found : goal.returns-in-Unended-clause-found
returns-in-Unended-clause-found c =
    rw (
      c.in_ok-push-in-Unended.ensures.ok,
      span_is _ _ _ c.between-in-Unended.ensures.start c.between-in-Unended.ensures.len,
      span_is _ _ _ c.between-last-in-Unended.ensures.start c.between-last-in-Unended.ensures.len,
    ) (value_unended _ _ _ _ _ _ c.loop-end.invariant.read (sym c.piece_end.ensures.told ∙ c.in-Unended.is))

pub returns-in-Refused-clause-refused : goal.returns-in-Refused-clause-refused
returns-in-Refused-clause-refused c = value_refused _ _ _ _ _ c.loop-end.invariant.read (sym c.piece_end.ensures.told ∙ c.in-Refused.is)
