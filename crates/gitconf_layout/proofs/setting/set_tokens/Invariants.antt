use Rattle.std.proofs.Common.{◌≡◌, ◌++◌, length}
use Rattle.gitconf_parse.specs.EventIters.{events_left}
use Rattle.gitconf_layout.specs.Setting as setting
use Rattle.gitconf_layout.proofs.setting.set_tokens.Given as goal

-- what is written, and what the rest writes, is the whole text
abbrev pub invariant-loop-event : goal.invariant-loop-event
invariant-loop-event l =
    l.text.items ++ setting.set_tokens l.options l.line_end l.place (events_left l.rest)
    ≡ setting.set_tokens l.options l.line_end (setting.first l.options) (events_left l.events)

abbrev pub decreases-loop-event : goal.decreases-loop-event
decreases-loop-event l = length (events_left l.rest)
