use Rattle.std.proofs.Common.{◌≡◌, ◌++◌, Bool, List, None, length}
use Rattle.std.specs.Fn.{ComputesKey}
use Rattle.std.specs.List.{last_or}
use Rattle.gitconf_sources.specs.Metadata.{Meta}
use Rattle.gitconf_state.specs.State.{SectionState}
use Rattle.gitconf_lookups.specs.Walks.{named_left, passing}
use Rattle.gitconf_lookups.proofs.filters.last_passing.Given as goal

-- no section after those that are left passes
abbrev pub invariant-loop-section : goal.invariant-loop-section
invariant-loop-section g l = record {
  callable : goal.F-IsAlwaysCallable g l.filter;
  behind : (behind : List SectionState) × (named_left l.fn.sections ≡ named_left l.left ++ behind);
  told : (keeps : Meta → Bool) → ComputesKey g.F.FnMut keeps l.fn.filter
      → ComputesKey g.F.FnMut keeps l.filter
      × (last_or None (passing keeps (named_left l.fn.sections)) ≡ last_or None (passing keeps (named_left l.left)));
}

abbrev pub decreases-loop-section : goal.decreases-loop-section
decreases-loop-section g l = length (named_left l.left)
