use Rattle.std.proofs.Common.{◌≡◌, drop, map}
use Rattle.gixcfg_core.specs.Colors.{is_one_of}
use Rattle.gixcfg_core.proofs.colors.place_of.Given as goal

abbrev pub invariant-loop-place : goal.invariant-loop-place
invariant-loop-place l = is_one_of (map (λ name. name.now) (drop l.place l.names)) l.word ≡ is_one_of (map (λ name. name.now) l.names) l.word
