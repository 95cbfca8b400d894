use Rattle.std.proofs.Common.{◌≡◌, ◌≤◌, ◌++◌, drop}
use Rattle.gitconf_items.specs.Items.{items_of}
use Rattle.gitconf_text.specs.LineEnds.{bytes_of_line_end}
use Rattle.gitconf_print.specs.Open.{open_of}
use Rattle.gitconf_print.specs.Runs.{run_of, IsLeft}
use Rattle.gitconf_print.specs.Texts.{items_text}
use Rattle.gitconf_print.proofs.items.write_behind.Given as goal
use Rattle.gitconf_state.specs.Writing.{Closed}

-- the items before were written but for a run, and no failure was counted
abbrev pub invariant-loop-item : goal.invariant-loop-item
invariant-loop-item g l = record {
  left : IsLeft (run_of l.buffer l.fn.run ++ items_text l.in_body (bytes_of_line_end l.line_end) Closed (items_of l.buffer l.items))
      (run_of l.buffer l.before.run ++ items_text l.in_body (bytes_of_line_end l.line_end) (open_of l.before.open) (items_of l.buffer (drop l.item-index l.items)))
      (g.W.Sink.told l.fn.out) (g.W.Sink.told l.out);
  quiet : g.W.Sink.faults l.out ≡ g.W.Sink.faults l.fn.out;
  ordered : l.before.run.start ≤ l.before.run.end;
}
