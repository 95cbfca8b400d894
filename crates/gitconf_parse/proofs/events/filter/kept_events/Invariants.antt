use Rattle.std.proofs.Common.{◌≡◌, ◌++◌, Bool, List, length, map}
use Rattle.std.specs.List.{AllByRecursion}
use Rattle.gitconf_items.specs.declared.event.Event.{Event}
use Rattle.gitconf_read.specs.Compact.{events_of}
use Rattle.gitconf_items.specs.EventRef.{Shown, shown}
use Rattle.gitconf_items.specs.Events.{token_of}
use Rattle.gitconf_items.specs.ShownEvents.{IsShown}
use Rattle.gitconf_items.specs.EventList.{IsKept, IsSelection}
use Rattle.gitconf_parse.proofs.events.filter.kept_events.Given as goal

-- some events were looked at, and those that are kept are held
abbrev pub invariant-loop-event : goal.invariant-loop-event
invariant-loop-event g l = (done : List Event) × record {
  all : done ++ events_of l.left ≡ events_of l.events;
  kept : (p : Shown → Bool) → ((e : _) (b : Bool) → (goal.Fn-ptr g).post l.filter (e, tt) b → b ≡ p (shown e.now)) → IsKept p l.buffer done l.kept l.entries;
  selected : IsSelection l.entries (map (token_of l.buffer) done) (map (token_of l.buffer) l.kept);
  fits : AllByRecursion (IsShown l.buffer l.copies) l.kept;
  left_fit : AllByRecursion (IsShown l.buffer l.copies) (events_of l.left);
}

abbrev pub decreases-loop-event : goal.decreases-loop-event
decreases-loop-event g l = length (events_of l.left)
