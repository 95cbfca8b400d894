use Rattle.std.proofs.Common.{◌-◌, length}
use Rattle.gitconf_merge.proofs.placing.Homes.share_all.Given as goal

abbrev pub decreases-loop-at : goal.decreases-loop-at
decreases-loop-at l = length l.rows - l.at
