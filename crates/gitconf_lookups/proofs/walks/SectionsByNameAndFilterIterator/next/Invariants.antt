use Rattle.std.proofs.Common.{◌≡◌, ◌≤◌, ◌++◌, Bool, List, length}
use Rattle.std.specs.Fn.{ComputesKey}
use Rattle.gitconf_sources.specs.Metadata.{Meta}
use Rattle.gitconf_state.specs.State.{SectionState}
use Rattle.gitconf_lookups.specs.Walks.{by_name_left, passing}
use Rattle.gitconf_lookups.proofs.walks.SectionsByNameAndFilterIterator.next.Given as goal

-- no section before those that are left passes
abbrev pub invariant-loop-section : goal.invariant-loop-section
invariant-loop-section g l = record {
  callable : goal.F-IsAlwaysCallable g l.self.filter;
  told : (keeps : Meta → Bool) → ComputesKey g.F.FnMut keeps l.initial.self.filter
      → ComputesKey g.F.FnMut keeps l.self.filter
      × (passing keeps (by_name_left l.initial.self.sections) ≡ passing keeps (by_name_left l.self.sections));
  skipped : (skipped : List SectionState) × (by_name_left l.initial.self.sections ≡ skipped ++ by_name_left l.self.sections);
  fewer : length (by_name_left l.self.sections) ≤ length (by_name_left l.initial.self.sections);
}

abbrev pub decreases-loop-section : goal.decreases-loop-section
decreases-loop-section g l = length (by_name_left l.self.sections)
