use Rattle.std.proofs.Common.{map, length}
use Rattle.gitconf_store.proofs.Edits.Several.{GoOn}
use Rattle.gitconf_store.proofs.store.Store.rewrite_all_entries_at.Given as goal

-- the first entries have the value
abbrev pub invariant-loop-place : goal.invariant-loop-place
invariant-loop-place l = GoOn l.key l.fn.places (map (λ _. l.value) l.fn.places) l.left (map (λ _. l.value) l.left) l.fn.self l.self

abbrev pub decreases-loop-place : goal.decreases-loop-place
decreases-loop-place l = length l.left
