use Rattle.std.proofs.Common.{◌-◌, length, map}
use Rattle.bstr.specs.Owned.{bstring_bytes}
use Rattle.gitconf_sources.specs.Key.{key_of}
use Rattle.gitconf_parse.proofs.Sought.{AreSought}
use Rattle.gitconf_parse.proofs.lookup.meanings.Given as goal

abbrev pub invariant-loop-values : goal.invariant-loop-values
invariant-loop-values l = AreSought l.input (key_of l.key) l.initial.cursor l.cursor (map bstring_bytes l.values.items)

abbrev pub decreases-loop-values : goal.decreases-loop-values
decreases-loop-values l = length l.input - l.cursor.at
