use Rattle.std.proofs.Common.{◌∙◌, ◌+◌, sym, arith}
use Rattle.gitconf_items.proofs.EscapedRuns.{waits_more, waits_none, fault_in_run, fault_in_pair, told_behind, Writes-last}
use Rattle.gitconf_items.proofs.event_ref.write_escaped_subsection.Goals as goal
use Rattle.gitconf_items.proofs.event_ref.write_escaped_subsection.Goals.{then-needs_backslash+in_ok-write_all+in_ok-write_all-2, else-needs_backslash}

pub returns-in_err-write_all-clause-written : goal.returns-in_err-write_all-clause-written
returns-in_err-write_all-clause-written g c =
    fault_in_run c.args.subsection.now c.loop-i.done c.loop-i.i c.from_residual.result _ _ _
    c.loop-i.invariant.waits c.loop-i.invariant.told c.from_residual.ensures.0 c.in_err-write_all.ensures.written

pub returns-in_err-write_all-2-clause-written : goal.returns-in_err-write_all-2-clause-written
returns-in_err-write_all-2-clause-written g c =
    fault_in_pair c.args.subsection.now c.loop-i.done c.loop-i.i c.from_residual-in_err-write_all-2.result _ _ _ _
    c.loop-i.invariant.waits c.loop-i-test.true (sym c.needs_backslash.ensures ∙ c.if-needs_backslash.true) c.loop-i.invariant.told
    c.in_ok-write_all.ensures.written c.from_residual-in_err-write_all-2.ensures.0 c.in_err-write_all-2.ensures.written

pub loop-i-preserved : goal.loop-i-preserved
loop-i-preserved g c =
    let s = c.args.subsection.now in
    let i = c.loop-i.i in
    let invariant = c.loop-i.invariant in
    elim c.if-needs_backslash.branch [
      | then-needs_backslash+in_ok-write_all+in_ok-write_all-2 w ↦
          let needs = sym c.needs_backslash.ensures ∙ w.if-needs_backslash.true in
          record {
            waits = rw w.done-is (waits_none s (i + 1) (omega (arith, c.loop-i-test.true)));
            told = rw (w.out-is, w.done-is) (told_behind s c.loop-i.done i _ _ _ _ invariant.waits c.loop-i-test.true needs invariant.told
                w.in_ok-write_all.ensures.written w.in_ok-write_all-2.ensures.written);
            quiet = rw w.out-is (w.in_ok-write_all-2.ensures.counted ∙ w.in_ok-write_all.ensures.counted ∙ invariant.quiet);
          }
      | else-needs_backslash w ↦
          let plain = sym c.needs_backslash.ensures ∙ w.if-needs_backslash.false in
          record {
            waits = rw w.done-is (waits_more s c.loop-i.done i invariant.waits c.loop-i-test.true plain);
            told = rw (w.out-is, w.done-is) invariant.told;
            quiet = rw w.out-is invariant.quiet;
          }
    ]

pub returns-clause-written : goal.returns-clause-written
returns-clause-written g c =
    Writes-last c.args.subsection.now c.loop-i.done c.loop-i.i c.write_all-2.result _ _ _
    c.loop-i.invariant.waits c.loop-i-test.false c.loop-i.invariant.told c.write_all-2.ensures.written
