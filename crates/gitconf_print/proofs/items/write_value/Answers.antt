use Rattle.std.proofs.Common.{◌∙◌, sym}
use Rattle.gitconf_print.proofs.Left.{left_behind, left_fault, left_last}
use Rattle.gitconf_print.proofs.Values.{next_piece, last_piece}
use Rattle.gitconf_print.proofs.items.write_value.Goals as goal

pub returns-in_err-write_piece-clause-written : goal.returns-in_err-write_piece-clause-written
returns-in_err-write_piece-clause-written g c =
    left_fault c.from_residual.result _ _ _ _ _ _ _ c.from_residual.ensures.0 c.loop-piece.invariant.left
    (next_piece _ _ _ c.as_slice-piece-items.result.now c.loop-piece.piece-index _ c.loop-piece-test.true) c.in_err-write_piece.ensures.written

pub loop-piece-preserved : goal.loop-piece-preserved
loop-piece-preserved g c = record {
  left = left_behind _ _ _ _ _ _ _ c.loop-piece.invariant.left
      (next_piece _ _ _ c.as_slice-piece-items.result.now c.loop-piece.piece-index _ c.loop-piece-test.true) c.in_ok-write_piece.ensures.written;
  quiet = c.in_ok-write_piece.ensures.counted ∙ c.loop-piece.invariant.quiet;
}

pub returns-clause-written : goal.returns-clause-written
returns-clause-written g c =
    left_last c.write_all.result _ _ _ _ _ _ c.loop-piece.invariant.left
    (last_piece _ _ _ c.as_slice-piece-items.result.now c.loop-piece.piece-index c.loop-piece-test.false ∙ sym c.bytes_in.ensures) c.write_all.ensures.written
