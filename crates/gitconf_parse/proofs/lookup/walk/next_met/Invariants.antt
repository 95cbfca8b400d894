use Rattle.std.proofs.Common.{◌-◌, ◌≤◌, [], length}
use Rattle.gitconf_sources.specs.Key.{key_of}
use Rattle.gitconf_parse.specs.Walk.{IsWalk}
use Rattle.gitconf_parse.proofs.lookup.walk.next_met.Given as goal

-- nothing was met up to here
abbrev pub invariant-loop-cursor : goal.invariant-loop-cursor
invariant-loop-cursor l = record {
  ordered : l.fn.cursor.at ≤ l.cursor.at;
  inside : l.cursor.at ≤ length l.input;
  walk : IsWalk l.input (key_of l.key) l.fn.cursor l.cursor [];
}

abbrev pub decreases-loop-cursor : goal.decreases-loop-cursor
decreases-loop-cursor l = length l.input - l.cursor.at
