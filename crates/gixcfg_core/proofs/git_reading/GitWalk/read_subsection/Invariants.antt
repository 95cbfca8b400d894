use Rattle.std.proofs.Common.{◌≤◌, length}
use Rattle.gixcfg_core.proofs.git_reading.GitWalk.read_subsection.Given as goal

-- what is left is no more than before
abbrev pub invariant-loop-byte : goal.invariant-loop-byte
invariant-loop-byte l = length l.rest ≤ length l.text

abbrev pub decreases-loop-byte : goal.decreases-loop-byte
decreases-loop-byte l = length l.rest
