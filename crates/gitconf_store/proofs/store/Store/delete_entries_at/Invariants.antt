use Rattle.std.proofs.Common.{◌≡◌, length}
use Rattle.gitconf_store.specs.Several.{all_deleted}
use Rattle.gitconf_store.proofs.store.Store.delete_entries_at.Given as goal

-- what is left to delete
abbrev pub invariant-loop-last : goal.invariant-loop-last
invariant-loop-last l = all_deleted l.left l.self ≡ all_deleted l.fn.places l.fn.self

abbrev pub decreases-loop-last : goal.decreases-loop-last
decreases-loop-last l = length l.left
