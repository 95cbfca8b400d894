use Rattle.std.proofs.Common.{◌≡◌, length}
use Rattle.gixcfg_replacing.specs.Calls.{is_synced as is_synced_lem}
use Rattle.folder_replay.proofs.crash.is_synced.Given as goal

abbrev pub invariant-loop-call : goal.invariant-loop-call
invariant-loop-call l = is_synced_lem l.rest l.at ≡ is_synced_lem l.calls l.fn.name

abbrev pub decreases-loop-call : goal.decreases-loop-call
decreases-loop-call l = length l.rest
