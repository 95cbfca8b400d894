use Rattle.std.proofs.Common.{◌-◌, length}
use Rattle.gitconf_sources.specs.Key.{key_of}
use Rattle.gitconf_parse.proofs.Sought.{IsSought}
use Rattle.gitconf_parse.proofs.lookup.deciding_place.Given as goal

abbrev pub invariant-loop-met : goal.invariant-loop-met
invariant-loop-met l = IsSought l.input (key_of l.key) l.initial.cursor l.cursor l.before l.now

abbrev pub decreases-loop-met : goal.decreases-loop-met
decreases-loop-met l = length l.input - l.cursor.at
