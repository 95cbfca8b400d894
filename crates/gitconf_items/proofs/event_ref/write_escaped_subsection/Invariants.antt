use Rattle.std.proofs.Common.{◌≡◌, take}
use Rattle.gitconf_items.specs.Sink.{with_text}
use Rattle.gitconf_items.specs.EventRef.{escaped_subsection}
use Rattle.gitconf_items.proofs.EscapedRuns.{Waits}
use Rattle.gitconf_items.proofs.event_ref.write_escaped_subsection.Given as goal

-- what is spelled by the bytes before `done` was written, a run waits, and no failure was counted
abbrev pub invariant-loop-i : goal.invariant-loop-i
invariant-loop-i g l = record {
  waits : Waits l.subsection l.done l.i;
  told : g.W.Sink.told l.out ≡ with_text (escaped_subsection (take l.done l.subsection)) (g.W.Sink.told l.fn.out);
  quiet : g.W.Sink.faults l.out ≡ g.W.Sink.faults l.fn.out;
}
