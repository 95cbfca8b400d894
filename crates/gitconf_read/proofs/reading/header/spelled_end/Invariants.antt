use Rattle.std.proofs.Common.{◌≡◌, ◌-◌, ◌≤◌, ◌<◌, length, drop}
use Rattle.gitconf_read.specs.Reading.{spelling_from}
use Rattle.gitconf_read.proofs.reading.header.spelled_end.Given as goal

-- what is left ends where the whole spelling ends
abbrev pub invariant-loop-i : goal.invariant-loop-i
invariant-loop-i l = (l.at < l.i) × (l.i ≤ length l.input) × (spelling_from l.at 0 (drop l.at l.input) ≡ spelling_from l.i 0 (drop l.i l.input))

abbrev pub decreases-loop-i : goal.decreases-loop-i
decreases-loop-i l = length l.input - l.i
