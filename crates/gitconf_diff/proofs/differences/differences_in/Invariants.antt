use Rattle.std.proofs.Common.{◌≤◌, ◌-◌, ◌++◌, List, drop, length, map}
use Rattle.gitconf_diff.specs.Differences.{Different, different_of, AreKept}
use Rattle.gitconf_diff.specs.PlainSections.{plain_sections, settings_in}
use Rattle.gitconf_diff.proofs.Headings.{Ascends}
use Rattle.gitconf_diff.proofs.differences.differences_in.Given as goal

-- behind what was added, the differences of the sections that are left are those of all
abbrev pub invariant-loop-first : goal.invariant-loop-first
invariant-loop-first l = record {
  more : (found : List Different) → AreKept (settings_in (plain_sections (drop l.at l.sections))) found → AreKept (settings_in (plain_sections l.sections)) (map different_of l.differences.items ++ found);
  up : Ascends (drop l.at l.sections);
  within : l.at ≤ length l.sections;
}

abbrev pub decreases-loop-first : goal.decreases-loop-first
decreases-loop-first l = length l.sections - l.at
