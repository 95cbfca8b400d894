use Rattle.std.proofs.Common.{length}
use Rattle.gitconf_merge.proofs.outline.add_tokens.Given as goal

abbrev pub decreases-loop-entry : goal.decreases-loop-entry
decreases-loop-entry l = length l.rest
