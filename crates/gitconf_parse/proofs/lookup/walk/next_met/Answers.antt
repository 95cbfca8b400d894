use Rattle.std.proofs.Common.{◌≡◌, None, arith, rules}
use Rattle.std.proofs.lemmas.Result.{err_from_is_err_and}
use Rattle.gitconf_parse.proofs.Walks.{both_walks, broken_walk, gap_walk}
use Rattle.gitconf_parse.proofs.lookup.walk.next_met.Goals as goal

pub returns-in_err-met-clause-broken : goal.returns-in_err-met-clause-broken
returns-in_err-met-clause-broken c =
    let p = err_from_is_err_and c.from_residual.result c.from_residual.ensures.1 in
    rw (p.1, p.2) (broken_walk _ _ _ _ _ _ c.loop-cursor.invariant.walk c.in_err-met.ensures.broken)

pub returns-in-Some-clause-read : goal.returns-in-Some-clause-read
returns-in-Some-clause-read c = both_walks _ _ _ _ _ _ _ c.loop-cursor.invariant.walk (rw c.in-Some.is at c.in_ok-met.ensures.read)

pub loop-cursor-preserved : goal.loop-cursor-preserved
loop-cursor-preserved c =
    let none : c.in_ok-met.field-0 ≡ None = search rules in
    let before = c.loop-cursor.invariant.ordered in
    let ahead = c.in_ok-met.ensures.ahead in
    let behind = c.gap_end-cursor.ensures.behind in
    record {
      ordered = omega (arith, before, ahead, behind);
      inside = c.gap_end-cursor.ensures.inside;
      walk = gap_walk _ _ _ _ _ _ (both_walks _ _ _ _ _ _ _ c.loop-cursor.invariant.walk (rw none at c.in_ok-met.ensures.read)) (c.gap_end-cursor.ensures.gap _);
    }
