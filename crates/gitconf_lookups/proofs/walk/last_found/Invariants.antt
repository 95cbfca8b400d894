use Rattle.std.proofs.Common.{◌≡◌, ◌++◌, Bool, List, length}
use Rattle.std.specs.Fn.{ComputesKey}
use Rattle.gitconf_sources.specs.Metadata.{Meta}
use Rattle.gitconf_state.specs.State.{SectionState}
use Rattle.gitconf_lookups.specs.Finding.{last_place}
use Rattle.gitconf_lookups.specs.Walks.{named_left}
use Rattle.gitconf_lookups.proofs.walk.last_found.Given as goal

-- no passing section after those that are left decides
abbrev pub invariant-loop-section : goal.invariant-loop-section
invariant-loop-section g l = record {
  callable : goal.F-IsAlwaysCallable g l.filter;
  behind : (behind : List SectionState) × (named_left l.fn.sections ≡ named_left l.left ++ behind);
  told : (keeps : Meta → Bool) → ComputesKey g.F.FnMut keeps l.fn.filter
      → ComputesKey g.F.FnMut keeps l.filter
      × (last_place l.deciding l.key keeps (named_left l.fn.sections) ≡ last_place l.deciding l.key keeps (named_left l.left));
}

abbrev pub decreases-loop-section : goal.decreases-loop-section
decreases-loop-section g l = length (named_left l.left)
