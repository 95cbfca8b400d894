use Rattle.std.proofs.Common.{◌≡◌, map, take}
use Rattle.gitconf_state.specs.Lookup.{meaning as meant}
use Rattle.gitconf_lookups.specs.Finding.{place_of}
use Rattle.gitconf_lookups.specs.Lookups.{texts_of}
use Rattle.gitconf_lookups.proofs.texts.meanings.Given as goal

-- what the places before mean
abbrev pub invariant-loop-place : goal.invariant-loop-place
invariant-loop-place l = texts_of l.texts ≡ map (λ f. meant (place_of f).1) (take l.place-index l.found)
