use Rattle.gitconf_parse.proofs.Gaps.{blanks_gap, both_gaps, line_ends_gap}
use Rattle.gitconf_parse.proofs.lookup.walk.gap_end.Goals as goal

pub returns-clause-gap : goal.returns-clause-gap
returns-clause-gap c = λ wanted. both_gaps _ _ _ _ wanted (line_ends_gap _ _ wanted _ c.gap_ends.ensures.line_ends) (blanks_gap _ _ wanted _ c.gap_ends.ensures.blanks)
