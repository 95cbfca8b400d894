use Rattle.std.proofs.Common.{◌≡◌, length, map}
use Rattle.gixcfg_commands.specs.Meant.{last_at, plain_holder}
use Rattle.gixcfg_commands.proofs.meant.last_at.Given as goal

-- the place among the sections that are left
abbrev pub invariant-loop-holder : goal.invariant-loop-holder
invariant-loop-holder l = last_at l.behind (map plain_holder l.left) ≡ last_at l.at (map plain_holder l.holders)

abbrev pub decreases-loop-holder : goal.decreases-loop-holder
decreases-loop-holder l = length l.left
