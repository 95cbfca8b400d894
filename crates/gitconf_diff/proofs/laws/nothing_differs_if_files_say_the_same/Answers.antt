use Rattle.gitconf_diff.proofs.DifferentKeys.{look_ups_same, nothing_iff, same_where_none}
use Rattle.gitconf_diff.proofs.laws.nothing_differs_if_files_say_the_same.Goals as goal

pub returns-clause-nothing : goal.returns-clause-nothing
returns-clause-nothing c one other differences are = nothing_iff one.sections other.sections differences are

pub returns-clause-look_ups : goal.returns-clause-look_ups
returns-clause-look_ups c one other key none = look_ups_same one other key (same_where_none one.sections other.sections none key)
