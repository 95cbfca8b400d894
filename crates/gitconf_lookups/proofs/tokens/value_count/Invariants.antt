use Rattle.std.proofs.Common.{◌≡◌, ◌+◌, ◌-◌, ◌^◌, ◌≤◌, length, min}
use Rattle.gitconf_views.specs.Counts.{section_entries}
use Rattle.gitconf_views.specs.Views.{sections_left}
use Rattle.gitconf_lookups.proofs.tokens.value_count.Given as goal

-- what holds of the sections that are left
abbrev pub invariant-loop-section : goal.invariant-loop-section
invariant-loop-section l = record {
  can_next : (goal.iterator-loop-section).can_next l.section-iterator;
  is_finite : (goal.iterator-loop-section).is_finite l.section-iterator;
  small : l.count ≤ 2 ^ 64 - 1;
  counted : min (l.count + length (section_entries (sections_left l.section-iterator))) (2 ^ 64 - 1) ≡ min (length (section_entries (sections_left l.fn.sections))) (2 ^ 64 - 1);
}
