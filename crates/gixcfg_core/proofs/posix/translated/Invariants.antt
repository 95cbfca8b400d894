use Rattle.std.proofs.Common.{◌≡◌, ◌++◌, codes, string_bytes}
use Rattle.gixcfg_core.specs.Posix.{last_place, spelled}
use Rattle.gixcfg_core.specs.declared.posix.Place.TheVariants.{Start}
use Rattle.gixcfg_core.proofs.posix.translated.Given as goal

-- what the characters so far come to, and the place behind them
abbrev pub invariant-loop-c : goal.invariant-loop-c
invariant-loop-c l = (string_bytes l.source ≡ codes "(?s)" ++ spelled Start l.yielded) × (l.place ≡ last_place Start l.yielded)
