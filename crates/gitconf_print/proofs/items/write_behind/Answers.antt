use Rattle.std.proofs.Common.{refl, ◌∙◌}
use Rattle.gitconf_print.proofs.Left.{left_fault, left_last}
use Rattle.gitconf_print.proofs.RunLemmas.{left_gathered}
use Rattle.gitconf_print.proofs.Texts.{next_behind, none_behind}
use Rattle.gitconf_print.proofs.items.write_behind.Goals as goal

pub returns-in_err-before-clause-written : goal.returns-in_err-before-clause-written
returns-in_err-before-clause-written g c =
    left_fault c.from_residual.result _ _ _ _ _ _ _ c.from_residual.ensures.0 c.loop-item.invariant.left
    (next_behind _ _ _ _ _ _ c.args.items.now c.loop-item.item-index c.item-item.result c.loop-item-test.true c.item-item.is refl) c.in_err-before.ensures.written

pub loop-item-preserved : goal.loop-item-preserved
loop-item-preserved g c = record {
  left = left_gathered _ _ _ _ _ _ _ _ c.loop-item.invariant.left
      (next_behind _ _ _ _ _ _ c.args.items.now c.loop-item.item-index c.item-item.result c.loop-item-test.true c.item-item.is c.in_ok-before.ensures.behind)
      c.in_ok-before.ensures.written;
  quiet = c.in_ok-before.ensures.counted ∙ c.loop-item.invariant.quiet;
  ordered = c.in_ok-before.ensures.ordered;
}

pub returns-clause-written : goal.returns-clause-written
returns-clause-written g c =
    left_last c.write_run.result _ _ _ _ _ _ c.loop-item.invariant.left
    (none_behind _ _ _ _ _ c.args.items.now c.loop-item.item-index c.loop-item-test.false) c.write_run.ensures.written
