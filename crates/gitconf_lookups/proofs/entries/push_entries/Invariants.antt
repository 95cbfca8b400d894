use Rattle.std.proofs.Common.{length, map}
use Rattle.gitconf_lookups.specs.Finding.{place_of, places_in}
use Rattle.gitconf_views.specs.Views.{shown}
use Rattle.gitconf_lookups.proofs.Placing.{IsTaken, places_left}
use Rattle.gitconf_lookups.proofs.entries.push_entries.Given as goal

-- those of the items before are found
abbrev pub invariant-loop-item : goal.invariant-loop-item
invariant-loop-item l =
    IsTaken (map place_of l.fn.found.items) (map place_of l.found.items) (places_left l.section.buffer.now l.key (shown l.section) l.rest) (places_in l.key (shown l.section))

abbrev pub decreases-loop-item : goal.decreases-loop-item
decreases-loop-item l = length l.rest
