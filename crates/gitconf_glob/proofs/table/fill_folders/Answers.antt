use Rattle.std.proofs.Common.{arith, length-set, ◌∙◌}
use Rattle.std.specs.Prelude.{◌-◌}
use Rattle.gitconf_glob.proofs.Filling.{reached_step, folders_step}
use Rattle.gitconf_glob.proofs.table.fill_folders.Goals as goal

pub loop-j-preserved : goal.loop-j-preserved
loop-j-preserved c = record {
  within = let h = c.loop-j.invariant.within in omega arith;
  long = length-set _ _ _ ∙ c.loop-j.invariant.long;
  reached = reached_step c.args.text.now c.args.below.now (c.loop-j.j - 1) c.loop-j.j c.loop-j.reached c.run_cell-reached.result
      (omega (arith, c.loop-j-test.true)) (omega (arith, c.loop-j-test.true, c.loop-j.invariant.within)) c.requires.below c.loop-j.invariant.reached c.run_cell-reached.ensures;
  same = folders_step c.args.text.now c.args.below.now c.args.behind.now c.loop-j.row (c.loop-j.j - 1) c.loop-j.j c.run_cell-reached.result c.either-in-loop-j.result
      (omega (arith, c.loop-j-test.true)) (omega (arith, c.loop-j-test.true, c.loop-j.invariant.within)) c.loop-j.invariant.long c.requires.below c.requires.behind c.loop-j.invariant.same
      (reached_step c.args.text.now c.args.below.now (c.loop-j.j - 1) c.loop-j.j c.loop-j.reached c.run_cell-reached.result
      (omega (arith, c.loop-j-test.true)) (omega (arith, c.loop-j-test.true, c.loop-j.invariant.within)) c.requires.below c.loop-j.invariant.reached c.run_cell-reached.ensures)
      c.either-in-loop-j.ensures;
}
