use Rattle.std.proofs.Common.{sym, ◌∙◌, arith}
use Rattle.gitconf_values.proofs.PathLemmas.{last_before}
use Rattle.gitconf_values.proofs.path.last_slash.Goals as goal

pub loop-left-preserved : goal.loop-left-preserved
loop-left-preserved c = record {
  within = omega (arith, c.loop-left.invariant.within);
  same = sym (last_before c.loop-left.left c.args.path.now c.loop-left-test.true c.if-path-left-eq47.false) ∙ c.loop-left.invariant.same;
}
