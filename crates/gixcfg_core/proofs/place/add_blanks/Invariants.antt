use Rattle.std.proofs.Common.{◌≡◌, ◌++◌, replicate, string_bytes}
use Rattle.gixcfg_core.proofs.place.add_blanks.Given as goal

abbrev pub invariant-loop : goal.invariant-loop
invariant-loop l = string_bytes l.all ≡ string_bytes l.initial.all ++ replicate l.counter 32
