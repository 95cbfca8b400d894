use Rattle.std.proofs.Common.{◌≡◌, length}
use Rattle.gixcfg_replacing.specs.Disk.{last_found}
use Rattle.gixcfg_replacing.specs.Calls.{past}
use Rattle.gixcfg_replacing.proofs.call.seen.Given as goal

abbrev pub invariant-loop-call : goal.invariant-loop-call
invariant-loop-call l = last_found (past l.rest l.sought) ≡ last_found (past l.calls l.fn.name)

abbrev pub decreases-loop-call : goal.decreases-loop-call
decreases-loop-call l = length l.rest
