use Rattle.std.proofs.Common.{◌≡◌, ◌-◌, ◌≤◌, length}
use Rattle.gitconf_read.specs.declared.reading.run.Run.TheVariants.{CommentText}
use Rattle.gitconf_read.specs.Reading.{run_end_at}
use Rattle.gitconf_read.proofs.reading.run.comment_end.Given as goal

-- what is left ends where the whole run ends
abbrev pub invariant-loop-i : goal.invariant-loop-i
invariant-loop-i l = (l.from ≤ l.i) × (l.i ≤ length l.input) × (run_end_at l.input CommentText l.i ≡ run_end_at l.input CommentText l.from)

abbrev pub decreases-loop-i : goal.decreases-loop-i
decreases-loop-i l = length l.input - l.i
