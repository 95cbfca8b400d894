use Rattle.std.proofs.Common.{◌≡◌, map, take}
use Rattle.gitconf_state.specs.Lookup.{meaning as meant}
use Rattle.gitconf_lookups.specs.Finding.{place_of}
use Rattle.gitconf_lookups.specs.Lookups.{shown_with}
use Rattle.gitconf_lookups.proofs.texts.meanings_with_sections.Given as goal

-- what the places before mean, and their sections
abbrev pub invariant-loop-place : goal.invariant-loop-place
invariant-loop-place l = map shown_with l.texts.items ≡ map (λ f. (meant (place_of f).1, (place_of f).0)) (take l.place-index l.found)
