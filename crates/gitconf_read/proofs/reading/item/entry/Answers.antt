use Rattle.std.proofs.lemmas.Result.{IfErr-weaker, IfOk-weaker}
use Rattle.std.proofs.Common.{arith}
use Rattle.gitconf_read.proofs.ItemReading.{bare_reads, entry_reads, entry_refused}
use Rattle.gitconf_read.proofs.Pieces.{span_is}
use Rattle.gitconf_read.proofs.reading.item.entry.Goals as goal

pub returns-in-Some-clause-found : goal.returns-in-Some-clause-found
returns-in-Some-clause-found c =
    let sign = c.sign_ends-sign.ensures in
    let first = rw c.in-Some.is at sign.first in
    let ordered = rw c.in-Some.is at sign.ordered in
    IfOk-weaker c.assigned_entry.result _ _
    (λ r e. entry_reads _ _ _ _ _ _ _ c.long_run_end-name_end.ensures.end sign.sign first.0 first.1 sign.behind (omega (arith, ordered.0)) ordered.1 e)
    c.assigned_entry.ensures.found

pub returns-in-Some-clause-refused : goal.returns-in-Some-clause-refused
returns-in-Some-clause-refused c =
    let sign = c.sign_ends-sign.ensures in
    let first = rw c.in-Some.is at sign.first in
    IfErr-weaker c.assigned_entry.result _ _
    (λ e refused. entry_refused _ _ _ _ _ e c.long_run_end-name_end.ensures.end sign.sign first.0 first.1 refused)
    c.assigned_entry.ensures.refused

pub returns-in_ok-entry-in-None-clause-found : goal.returns-in_ok-entry-in-None-clause-found
returns-in_ok-entry-in-None-clause-found c =
    let sign = c.sign_ends-sign.ensures in
    let n = c.between-name.ensures in
    let b = c.between-blanks.ensures in
    bare_reads _ _ _ _ _ c.long_run_end-name_end.ensures.end sign.sign (rw c.in-None.is at sign.first) sign.behind sign.inside
    (rw (span_is _ _ _ n.start n.len, span_is _ _ _ b.start b.len) at c.in_ok-entry-in-None.ensures.told)
