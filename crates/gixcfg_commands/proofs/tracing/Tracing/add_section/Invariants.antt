use Rattle.std.proofs.Common.{length}
use Rattle.gixcfg_commands.proofs.tracing.Tracing.add_section.Given as goal

abbrev pub decreases-loop-entry : goal.decreases-loop-entry
decreases-loop-entry g l = length l.rest
