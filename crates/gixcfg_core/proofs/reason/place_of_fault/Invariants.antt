use Rattle.std.proofs.Common.{◌≡◌, ◌≤◌, ◌-◌, length, drop}
use Rattle.gixcfg_core.specs.Reason.{wrong_from}
use Rattle.gixcfg_core.specs.declared.reason.State.TheVariants.{Plain}
use Rattle.gixcfg_core.proofs.reason.place_of_fault.Given as goal

abbrev pub invariant-loop-here : goal.invariant-loop-here
invariant-loop-here l = (l.here ≤ length l.value) × (l.opened ≤ l.here)
    × (wrong_from l.here l.opened l.state (drop l.here l.value) ≡ wrong_from 0 0 Plain l.value)

abbrev pub decreases-loop-here : goal.decreases-loop-here
decreases-loop-here l = length l.value - l.here
