use Rattle.std.proofs.Common.{◌≡◌, map, take}
use Rattle.gitconf_lookups.specs.Lookups.{texts_of}
use Rattle.gitconf_store.specs.Several.{meaning_of_place}
use Rattle.gitconf_store.proofs.store.Store.meanings_at.Given as goal

-- what the entries before mean
abbrev pub invariant-loop-place : goal.invariant-loop-place
invariant-loop-place l = texts_of l.texts ≡ map (meaning_of_place l.self) (take l.place-index l.places)
