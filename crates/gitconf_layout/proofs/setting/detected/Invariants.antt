use Rattle.std.proofs.Common.{◌≡◌, length}
use Rattle.gitconf_parse.specs.EventIters.{events_left}
use Rattle.gitconf_layout.specs.Layout as spec
use Rattle.gitconf_layout.proofs.setting.detected.Given as goal

-- no newline before the rest
abbrev pub invariant-loop-event : goal.invariant-loop-event
invariant-loop-event l = spec.detected (events_left l.rest) ≡ spec.detected (events_left l.events)

abbrev pub decreases-loop-event : goal.decreases-loop-event
decreases-loop-event l = length (events_left l.rest)
