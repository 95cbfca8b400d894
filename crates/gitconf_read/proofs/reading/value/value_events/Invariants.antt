use Rattle.std.proofs.Common.{◌≡◌, ◌-◌, ◌≤◌, length, drop}
use Rattle.gitconf_read.specs.Reading.{value_from, value_at}
use Rattle.gitconf_read.proofs.reading.value.value_events.Given as goal

-- what is left is read to what the whole value is read to
abbrev pub invariant-loop-end : goal.invariant-loop-end
invariant-loop-end l = (l.first ≤ l.from) × (l.from ≤ length l.input)
    × (value_from l.first l.events l.joined l.from l.from l.quoted l.from 0 (drop l.from l.input) ≡ value_at l.first l.fn.events (drop l.first l.input))

abbrev pub decreases-loop-end : goal.decreases-loop-end
decreases-loop-end l = length l.input - l.from
