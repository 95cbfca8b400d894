use Rattle.std.proofs.Common.{◌≡◌, ◌++◌, true, map, length}
use Rattle.gitconf_read.specs.Compact.{events_of}
use Rattle.gitconf_items.specs.Events.{token_of}
use Rattle.gitconf_items.specs.ItemsFit.{AreItemsWithin, EventsWithin}
use Rattle.gitconf_items.specs.Items.{tokens_of_items}
use Rattle.gitconf_items.specs.Grouping.{Between, are_items}
use Rattle.gitconf_parse.proofs.grouping.push_items.Given as goal

-- these items were read, and after them go others on
abbrev pub invariant-loop-first : goal.invariant-loop-first
invariant-loop-first l = record {
  joined : tokens_of_items l.buffer l.items.items ++ map (token_of l.buffer) (events_of l.rest) ≡ map (token_of l.buffer) (events_of l.events);
  go_on : are_items Between (map (token_of l.buffer) (events_of l.rest)) ≡ true;
  items : AreItemsWithin (length l.buffer) l.items.items;
  others : EventsWithin (length l.buffer) (events_of l.rest);
}

abbrev pub decreases-loop-first : goal.decreases-loop-first
decreases-loop-first l = length (events_of l.rest)
