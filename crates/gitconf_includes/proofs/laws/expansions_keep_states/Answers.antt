use Rattle.gitconf_includes.proofs.Numbers.{states_stay}
use Rattle.gitconf_includes.proofs.laws.expansions_keep_states.Goals as goal

pub returns : goal.returns
returns c = states_stay
