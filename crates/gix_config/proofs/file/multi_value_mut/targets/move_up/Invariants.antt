use Rattle.std.proofs.Common.{◌≡◌, ◌++◌, drop, map, take}
use Rattle.gitconf_store.specs.Several.{moved_up}
use Rattle.gix_config.proofs.file.multi_value_mut.targets.move_up.Given as goal

-- the first places are moved up
abbrev pub invariant-loop-place : goal.invariant-loop-place
invariant-loop-place l = l.places ≡ map (moved_up l.gone) (take l.place-index l.fn.places) ++ drop l.place-index l.fn.places
