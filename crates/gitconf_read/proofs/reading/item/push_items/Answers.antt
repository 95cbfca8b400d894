use Rattle.std.proofs.Common.{[]}
use Rattle.std.proofs.lemmas.Bool.{ne_eqb}
use Rattle.std.proofs.lemmas.Result.{err_from_is_err_and}
use Rattle.gitconf_read.proofs.Stretches.{broken_behind, kept_fit, more_kept, part_broken}
use Rattle.gitconf_read.proofs.reading.item.push_items.Goals as goal

pub returns-in_err-end-clause-broken : goal.returns-in_err-end-clause-broken
returns-in_err-end-clause-broken c =
    let p = err_from_is_err_and c.from_residual.result c.from_residual.ensures.1 in
    rw (p.1, p.2) (broken_behind _ _ _ _ _ _ _ c.loop-at.invariant.read.stretch (part_broken _ _ _ [] _ _ c.loop-at-test.true c.in_err-end.ensures.refused))

pub loop-at-preserved : goal.loop-at-preserved
loop-at-preserved c =
    let line = c.in_ok-push_line_ends.ensures.found _ in
    let blank = c.in_ok-push_blanks.ensures.found _ in
    record {
      inside = c.gap_ends-line_end.ensures.inside;
      read = blank.goes_on _ (line.goes_on _ (more_kept _ _ _ _ _ _ _ _ c.loop-at.invariant.read c.loop-at-test.true (ne_eqb _ 91 c.if-input-at-ne91.true) c.in_ok-end.ensures.found));
      items = blank.fit (line.fit (kept_fit _ _ _ _ _ _ _ c.loop-at.invariant.items c.in_ok-end.ensures.found));
    }
