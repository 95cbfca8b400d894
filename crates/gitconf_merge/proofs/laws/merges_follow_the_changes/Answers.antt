use Rattle.std.proofs.Common.{sym, ◌∙◌}
use Rattle.gitconf_diff.specs.Differences.{answers_at}
use Rattle.gitconf_merge.proofs.Swaps.{ours_alone, swapped, theirs_alone}
use Rattle.gitconf_merge.proofs.laws.merges_follow_the_changes.Goals as goal

pub returns-clause-ours_unchanged : goal.returns-clause-ours_unchanged
returns-clause-ours_unchanged c favor base ours theirs result is same key =
    is.settled key (answers_at key theirs) (theirs_alone (answers_at key base) (answers_at key ours) (answers_at key theirs) (same key))

pub returns-clause-theirs_unchanged : goal.returns-clause-theirs_unchanged
returns-clause-theirs_unchanged c favor base ours theirs result is same key =
    is.settled key (answers_at key ours) (ours_alone (answers_at key base) (answers_at key ours) (answers_at key theirs) (same key))

pub returns-clause-swapped : goal.returns-clause-swapped
returns-clause-swapped c favor other base ours theirs result turned is also key a told =
    is.settled key a told ∙ sym (also.settled key a (swapped (answers_at key base) (answers_at key ours) (answers_at key theirs) a told))
