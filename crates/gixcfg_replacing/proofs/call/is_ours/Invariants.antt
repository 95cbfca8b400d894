use Rattle.std.proofs.Common.{◌≡◌, length}
use Rattle.gixcfg_replacing.specs.Calls.{is_ours as is_ours_lem}
use Rattle.gixcfg_replacing.proofs.call.is_ours.Given as goal

abbrev pub invariant-loop-call : goal.invariant-loop-call
invariant-loop-call l = is_ours_lem l.rest l.name ≡ is_ours_lem l.calls l.name

abbrev pub decreases-loop-call : goal.decreases-loop-call
decreases-loop-call l = length l.rest
