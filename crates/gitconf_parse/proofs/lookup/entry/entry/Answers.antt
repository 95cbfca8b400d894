use Rattle.std.proofs.Common.{arith}
use Rattle.gitconf_read.specs.declared.reading.Expected.TheVariants as expected
use Rattle.gitconf_read.specs.declared.reading.ReadError.TheVariants.{Fault}
use Rattle.gitconf_read.proofs.ItemReading.{entry_refused}
use Rattle.gitconf_parse.proofs.Entries.{entry_bare, entry_found}
use Rattle.gitconf_parse.proofs.lookup.entry.entry.Goals as goal

pub returns-in-Some-value_end-clause-found : goal.returns-in-Some-value_end-clause-found
returns-in-Some-value_end-clause-found c =
    let sign = c.sign_ends-sign.ensures in
    let first = rw c.in-Some.is at sign.first in
    let ordered = rw c.in-Some.is at sign.ordered in
    entry_found _ _ _ _ _ _ c.in-Some-value_end.ensures.found.0 c.long_run_end-name_end.ensures.end sign.sign first.0 first.1 sign.behind (omega (arith, ordered.0)) ordered.1 c.in-Some-value_end.ensures.found.1

pub returns-in-None-value_end-clause-refused : goal.returns-in-None-value_end-clause-refused
returns-in-None-value_end-clause-refused c =
    let sign = c.sign_ends-sign.ensures in
    let first = rw c.in-Some.is at sign.first in
    entry_refused _ _ _ _ _ (Fault (record { at = c.in-Some.first; expected = expected.Value })) c.long_run_end-name_end.ensures.end sign.sign first.0 first.1 c.in-None-value_end.ensures.refused

pub returns-in-None-clause-found : goal.returns-in-None-clause-found
returns-in-None-clause-found c =
    let sign = c.sign_ends-sign.ensures in
    entry_bare _ _ _ _ c.long_run_end-name_end.ensures.end sign.sign (rw c.in-None.is at sign.first) sign.behind sign.inside
