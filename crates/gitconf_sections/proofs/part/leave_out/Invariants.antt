use Rattle.std.proofs.Common.{◌≡◌, ◌≤◌, ◌++◌, length, take, drop}
use Rattle.gitconf_sections.specs.LeavingOut.{left_from}
use Rattle.gitconf_sections.proofs.part.leave_out.Given as goal

-- those that are kept are in front, and the walk's answer for the rest follows them
abbrev pub invariant-loop-at : goal.invariant-loop-at
invariant-loop-at l = (l.kept ≤ l.at) × (length l.items ≡ length l.initial.items)
    × (take l.kept l.items ++ left_from l.at l.left (drop l.at l.items) ≡ left_from 0 l.fn.places l.initial.items)
