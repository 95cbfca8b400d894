use Rattle.std.proofs.Common.{◌≤◌, rules, arith}
use Rattle.gixcfg_core.proofs.comments.ends_of.Goals as goal

pub loop-event-preserved : goal.loop-event-preserved
loop-event-preserved c =
    let later : c.loop-event.at ≤ c.saturating_add-at.result = search (rules, arith) in
    (search (rules, arith), c.next_ends-ends.ensures c.loop-event.at later c.loop-event.invariant.1)
