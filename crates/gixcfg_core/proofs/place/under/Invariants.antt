use Rattle.std.proofs.Common.{◌≡◌, string_bytes}
use Rattle.std.specs.List.{flat_map}
use Rattle.gixcfg_core.specs.Line.{under_char}
use Rattle.gixcfg_core.proofs.place.under.Given as goal

abbrev pub invariant-loop-c : goal.invariant-loop-c
invariant-loop-c l = string_bytes l.all ≡ flat_map under_char l.yielded
