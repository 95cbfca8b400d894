use Rattle.std.proofs.Common.{drop, map}
use Rattle.gitconf_store.proofs.Edits.Several.{GoOn}
use Rattle.gitconf_store.proofs.store.Store.rewrite_entries_at.Given as goal

-- the first entries have their values
abbrev pub invariant-loop-value : goal.invariant-loop-value
invariant-loop-value l =
    GoOn l.key l.fn.places (map (λ v. v.now) l.fn.values) l.left (map (λ v. v.now) (drop l.value-index l.fn.values)) l.fn.self l.self
