use Rattle.std.proofs.Common.{◌≡◌, drop}
use Rattle.gitconf_text.specs.LineEnds.{bytes_of_line_end}
use Rattle.gitconf_print.specs.Runs.{IsLeft}
use Rattle.gitconf_print.proofs.Values.{pieces_text}
use Rattle.gitconf_print.proofs.items.write_value.Given as goal

-- the pieces before were written, and no failure was counted
abbrev pub invariant-loop-piece : goal.invariant-loop-piece
invariant-loop-piece g l = record {
  left : IsLeft (pieces_text (bytes_of_line_end l.line_end) l.buffer l.value.last l.value.pieces.items)
      (pieces_text (bytes_of_line_end l.line_end) l.buffer l.value.last (drop l.piece-index l.piece-items))
      (g.W.Sink.told l.fn.out) (g.W.Sink.told l.out);
  quiet : g.W.Sink.faults l.out ≡ g.W.Sink.faults l.fn.out;
}
