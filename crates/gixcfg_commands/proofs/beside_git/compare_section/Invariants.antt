use Rattle.std.proofs.Common.{length}
use Rattle.gixcfg_commands.proofs.beside_git.compare_section.Given as goal

abbrev pub decreases-loop-entry : goal.decreases-loop-entry
decreases-loop-entry l = length l.rest
