use Rattle.std.proofs.Common.{◌≤◌, length}
use Rattle.gitconf_store.proofs.Edits.LeavingOut.{IsRunBack}
use Rattle.gitconf_store.proofs.store.leaving_out.before_run.Given as goal

-- the run so far, from its first place on
abbrev pub invariant-loop-place : goal.invariant-loop-place
invariant-loop-place l = (length l.rest ≤ length l.fn.before) × IsRunBack l.fn.id l.rest l.fn.before l.first l.fn.last

abbrev pub decreases-loop-place : goal.decreases-loop-place
decreases-loop-place l = length l.rest
