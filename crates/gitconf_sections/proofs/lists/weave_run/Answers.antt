use Rattle.gitconf_sections.proofs.Woven.{run_rotated}
use Rattle.gitconf_sections.proofs.lists.weave_run.Goals as goal

pub returns : goal.returns
returns g c =
    run_rotated c.args.run c.args.first c.args.list.now c.split_at_mut-tail.result.0.now c.split_at_mut-tail.result.1.now c.split_at_mut-part.result.0.now c.split_at_mut-part.result.1.now c.rotate_left.new.self
    c.requires.ahead c.split_at_mut-tail.ensures.front c.split_at_mut-tail.ensures.back c.split_at_mut-part.ensures.front c.split_at_mut-part.ensures.back c.rotate_left.ensures.after
