use Rattle.std.proofs.Common.{length}
use Rattle.gitconf_sections.proofs.lists.+weave_halves.Given as goal

abbrev pub decreases-weave_halves : goal.decreases-weave_halves
decreases-weave_halves g l = length l.runs.now
