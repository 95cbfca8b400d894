use Rattle.std.proofs.Common.{length}
use Rattle.folder_replay.proofs.crash.left_by_crash.Given as goal

abbrev pub decreases-loop-call : goal.decreases-loop-call
decreases-loop-call l = length l.rest
