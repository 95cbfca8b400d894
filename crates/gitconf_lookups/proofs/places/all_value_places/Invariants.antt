use Rattle.std.proofs.Common.{◌≡◌, ◌++◌, Bool, length}
use Rattle.std.specs.Fn.{ComputesKey}
use Rattle.gitconf_sources.specs.Metadata.{Meta}
use Rattle.gitconf_lookups.specs.ValuePlaces.{all_value_places, value_places}
use Rattle.gitconf_lookups.specs.Walks.{named_left}
use Rattle.gitconf_lookups.proofs.Walking.{AreSomeFound}
use Rattle.gitconf_lookups.proofs.places.all_value_places.Given as goal

-- what was found, and what is in the sections that are left
abbrev pub invariant-loop-section : goal.invariant-loop-section
invariant-loop-section g l = record {
  callable : goal.F-IsAlwaysCallable g l.filter;
  some : AreSomeFound (value_places l.key) (named_left l.fn.sections) (named_left l.left) l.found.items;
  told : (keeps : Meta → Bool) → ComputesKey g.F.FnMut keeps l.fn.filter
      → ComputesKey g.F.FnMut keeps l.filter
      × (l.found.items ++ all_value_places l.key keeps (named_left l.left) ≡ all_value_places l.key keeps (named_left l.fn.sections));
}

abbrev pub decreases-loop-section : goal.decreases-loop-section
decreases-loop-section g l = length (named_left l.left)
