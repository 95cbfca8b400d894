use Rattle.std.proofs.Common.{◌≡◌, ◌≤◌, length, take, drop}
use Rattle.std.specs.Prelude.{vec_capacity}
use Rattle.gitconf_sections.proofs.part.taken.Given as goal

-- those before the place were taken, and those from it on are as they were
abbrev pub invariant-loop-at : goal.invariant-loop-at
invariant-loop-at l = (length l.items ≡ length l.initial.items) × (length l.initial.items ≤ vec_capacity l.taken)
    × (l.taken.items ≡ take l.at l.initial.items) × (drop l.at l.items ≡ drop l.at l.initial.items)
