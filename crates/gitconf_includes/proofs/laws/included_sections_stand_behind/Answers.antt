use Rattle.gitconf_includes.proofs.Behind.{stand_behind}
use Rattle.gitconf_includes.proofs.laws.included_sections_stand_behind.Goals as goal

pub returns : goal.returns
returns c = stand_behind
