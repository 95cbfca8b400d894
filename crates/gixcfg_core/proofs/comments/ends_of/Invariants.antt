use Rattle.std.proofs.Common.{◌^◌, ◌<◌}
use Rattle.std.specs.Prelude.{IfSome}
use Rattle.gixcfg_core.specs.Comments.{AreBefore}
use Rattle.gixcfg_core.proofs.comments.ends_of.Given as goal

-- what was found ends before the place that was reached
abbrev pub invariant-loop-event : goal.invariant-loop-event
invariant-loop-event l = (l.at < 2 ^ 64) × IfSome l.ends (AreBefore l.at)
