use Rattle.std.proofs.Common.{◌≡◌, ◌++◌, drop, flat_map, map}
use Rattle.bstr.specs.Owned.{bstring_bytes}
use Rattle.gixcfg_commands.specs.Plainly.{line}
use Rattle.gixcfg_commands.proofs.library.lines_of.Given as goal

-- the lines so far, and those of the values that are left
abbrev pub invariant-loop-value : goal.invariant-loop-value
invariant-loop-value l = l.lines.items ++ flat_map line (map bstring_bytes (drop l.value-index l.values)) ≡ flat_map line (map bstring_bytes l.values)
