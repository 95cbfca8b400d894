use Rattle.std.proofs.Common.{◌≡◌, ◌∷◌, rules}
use Rattle.gixcfg_commands.proofs.MeantLemmas.{next_stand, step_removed}
use Rattle.gixcfg_commands.proofs.meant.remove_from_each.Goals as goal

pub loop-holder-preserved : goal.loop-holder-preserved
loop-holder-preserved c =
    let first : c.loop-holder.left.now ≡ c.in-Some.holder.now ∷ c.in-Some.others.now = search rules in (
      step_removed c.args.name.now c.loop-holder.rest.now c.split_marks.result.0.now c.split_marks.result.1.now c.in-Some.holder.now c.loop-holder.left.now c.in-Some.others.now c.loop-holder.file c.remove_marked.new.file _
          first c.split_marks.ensures.own c.split_marks.ensures.behind c.in_ok-remove_marked.ensures.ok c.loop-holder.invariant.0,
      λ all. next_stand c.args.name.now c.split_marks.result.0.now c.in-Some.holder.now c.loop-holder.left.now c.in-Some.others.now c.loop-holder.file c.remove_marked.new.file
          first c.in_ok-remove_marked.ensures.ok (c.loop-holder.invariant.1 all),
    )
