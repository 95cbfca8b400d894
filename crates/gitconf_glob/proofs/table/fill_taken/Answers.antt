use Rattle.std.proofs.Common.{arith, length-set, ◌∙◌}
use Rattle.std.specs.Prelude.{◌-◌}
use Rattle.gitconf_glob.proofs.Filling.{taken_step}
use Rattle.gitconf_glob.proofs.table.fill_taken.Goals as goal

pub loop-j-preserved : goal.loop-j-preserved
loop-j-preserved c = record {
  within = let h = c.loop-j.invariant.within in omega arith;
  long = length-set _ _ _ ∙ c.loop-j.invariant.long;
  same = taken_step _ c.args.text.now c.args.among.now c.args.below.now c.loop-j.row (c.loop-j.j - 1) c.loop-j.j c.taken_cell.result
      (omega (arith, c.loop-j-test.true)) (omega (arith, c.loop-j-test.true, c.loop-j.invariant.within)) c.loop-j.invariant.long c.requires.among c.requires.below c.loop-j.invariant.same c.taken_cell.ensures;
}
