use Rattle.std.proofs.Common.{◌≡◌, ◌+◌, drop}
use Rattle.gitconf_sections.specs.Runs.{total}
use Rattle.gitconf_sections.proofs.lists.total.Given as goal

-- what was summed, and what is left
abbrev pub invariant-loop-run : goal.invariant-loop-run
invariant-loop-run l = record {
  ahead : l.all.ahead + (total (drop l.run-index l.runs)).ahead ≡ (total l.runs).ahead;
  count : l.all.count + (total (drop l.run-index l.runs)).count ≡ (total l.runs).count;
}
