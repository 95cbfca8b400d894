use Rattle.std.proofs.Common.{length, ◌-◌, ◌≡◌, ◌≤◌, take}
use Rattle.gitconf_items.specs.Sink.{with_text}
use Rattle.gitconf_items.proofs.sink.write_all.Given as goal

-- the bytes before `done` were written, and no failure was counted
abbrev pub invariant-loop-done : goal.invariant-loop-done
invariant-loop-done g l = record {
  within : l.done ≤ length l.text;
  told : g.W.Sink.told l.out ≡ with_text (take l.done l.text) (g.W.Sink.told l.fn.out);
  quiet : g.W.Sink.faults l.out ≡ g.W.Sink.faults l.fn.out;
}

abbrev pub decreases-loop-done : goal.decreases-loop-done
decreases-loop-done g l = length l.text - l.done
