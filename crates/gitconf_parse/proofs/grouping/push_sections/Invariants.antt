use Rattle.std.proofs.Common.{◌≡◌, ◌++◌, [], true, map, length}
use Rattle.gitconf_read.specs.Compact.{events_of}
use Rattle.gitconf_items.specs.Events.{token_of}
use Rattle.gitconf_items.specs.ItemsFit.{EventsWithin}
use Rattle.gitconf_items.specs.Sections.{is_header_event, is_cut}
use Rattle.gitconf_items.specs.Grouping.{Between, are_items}
use Rattle.gitconf_parse.proofs.grouping.push_sections.Given as goal

-- these sections were handed over, and after them go others on
abbrev pub invariant-loop-header : goal.invariant-loop-header
invariant-loop-header g l = record {
  joined : g.S.SectionSink.tokens l.buffer l.sections ++ map (token_of l.buffer) (events_of l.rest)
      ≡ g.S.SectionSink.tokens l.buffer l.fn.sections ++ map (token_of l.buffer) (events_of l.events);
  go_on : are_items Between (map (token_of l.buffer) (events_of l.rest)) ≡ true;
  cut : is_cut is_header_event (events_of l.rest) ≡ true;
  keeps : (first : g.row.S.Denot) → g.S.SectionSink.keeps l.buffer first l.fn.sections → g.S.SectionSink.keeps l.buffer first l.sections;
  within : EventsWithin (length l.buffer) (events_of l.rest);
  empty : l.scratch.items ≡ [];
}

abbrev pub decreases-loop-header : goal.decreases-loop-header
decreases-loop-header g l = length (events_of l.rest)
