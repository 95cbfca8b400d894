use Rattle.std.proofs.Common.{◌≡◌, ◌-◌, ◌≤◌, ◌<◌, ℕ, Bool, length, drop}
use Rattle.gitconf_read.specs.Reading.{piece_from}
use Rattle.gitconf_read.proofs.reading.value.plain_end.Given as goal

-- the reader goes on from here
abbrev pub invariant-loop-i : goal.invariant-loop-i
invariant-loop-i l = (l.at < l.i) × (l.i ≤ length l.input)
    × ((kept : ℕ) (quoted : Bool) → piece_from kept quoted l.at 0 (drop l.at l.input) ≡ piece_from l.i quoted l.i 0 (drop l.i l.input))

abbrev pub decreases-loop-i : goal.decreases-loop-i
decreases-loop-i l = length l.input - l.i
