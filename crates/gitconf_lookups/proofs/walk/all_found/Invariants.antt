use Rattle.std.proofs.Common.{◌≡◌, ◌++◌, Bool, length, map}
use Rattle.std.specs.Fn.{ComputesKey}
use Rattle.gitconf_sources.specs.Metadata.{Meta}
use Rattle.gitconf_lookups.specs.Finding.{all_places, place_of, places_in}
use Rattle.gitconf_lookups.specs.Walks.{named_left}
use Rattle.gitconf_lookups.proofs.Walking.{AreSomeFound}
use Rattle.gitconf_lookups.proofs.walk.all_found.Given as goal

-- what was found, and what is in the sections that are left
abbrev pub invariant-loop-section : goal.invariant-loop-section
invariant-loop-section g l = record {
  callable : goal.F-IsAlwaysCallable g l.filter;
  some : AreSomeFound (places_in l.key) (named_left l.fn.sections) (named_left l.left) (map place_of l.found.items);
  told : (keeps : Meta → Bool) → ComputesKey g.F.FnMut keeps l.fn.filter
      → ComputesKey g.F.FnMut keeps l.filter
      × (map place_of l.found.items ++ all_places l.key keeps (named_left l.left) ≡ all_places l.key keeps (named_left l.fn.sections));
}

abbrev pub decreases-loop-section : goal.decreases-loop-section
decreases-loop-section g l = length (named_left l.left)
