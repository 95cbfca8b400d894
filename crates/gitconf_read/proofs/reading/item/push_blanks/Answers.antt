use Rattle.std.proofs.Common.{arith, refl}
use Rattle.gitconf_read.proofs.KeptGaps.{ahead_of, blanks_there, no_gap_read, one_gap_read}
use Rattle.gitconf_read.proofs.KeptItems.{gap_read, whole_read}
use Rattle.gitconf_read.proofs.Pieces.{span_is}
use Rattle.gitconf_read.proofs.reading.item.push_blanks.Goals as goal

pub returns-then-at-end-clause-found : goal.returns-then-at-end-clause-found
returns-then-at-end-clause-found c = λ wanted. no_gap_read _ _ _ _ wanted _ c.if-at-end.true

pub returns-in_ok-push-in-All-clause-found : goal.returns-in_ok-push-in-All-clause-found
returns-in_ok-push-in-All-clause-found c = λ wanted.
    let behind = c.requires.ordered in
    let start = c.between.ensures.start in
    let len = c.between.ensures.len in
    let within = c.requires.within in
    let there = blanks_there _ _ _ wanted c.requires.ends (ahead_of _ _ c.requires.ordered c.if-at-end.false) in
    one_gap_read _ _ _ _ wanted _ _ there.0 there.1
    (rw c.in-All.is (whole_read _ _ wanted _ _ _ _ c.in_ok-push-in-All.ensures.items (rw (span_is _ _ _ start len) there.2) (omega (arith, start, len, behind, within))))

pub returns-in-Meaning-clause-found : goal.returns-in-Meaning-clause-found
returns-in-Meaning-clause-found c = λ wanted.
    let there = blanks_there _ _ _ wanted c.requires.ends (ahead_of _ _ c.requires.ordered c.if-at-end.false) in
    one_gap_read _ _ _ _ wanted _ _ there.0 there.1 (rw c.in-Meaning.is (gap_read _ _ wanted _ _ _ refl there.2))
