use Rattle.std.proofs.Common.{◌≡◌, ◌++◌, drop, map}
use Rattle.gixcfg_commands.specs.Emptied.{losses_of}
use Rattle.gixcfg_commands.specs.Meant.{plain_holder}
use Rattle.gixcfg_commands.proofs.meant.losses_of.Given as goal

-- the answers so far, and those of the sections that are left
abbrev pub invariant-loop-holder : goal.invariant-loop-holder
invariant-loop-holder l =
    l.losses.items ++ losses_of l.left (map plain_holder (drop l.holder-index l.holders)) ≡ losses_of l.marks (map plain_holder l.holders)
