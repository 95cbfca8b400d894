use Rattle.gitconf_includes.proofs.OneLoad.{one_load}
use Rattle.gitconf_includes.proofs.OneOutcome.{one_outcome, one_resolution}
use Rattle.gitconf_includes.proofs.laws.expansions_have_one_outcome.Goals as goal

pub returns-clause-expanded : goal.returns-clause-expanded
returns-clause-expanded c = one_outcome

pub returns-clause-resolved : goal.returns-clause-resolved
returns-clause-resolved c = one_resolution

pub returns-clause-loaded : goal.returns-clause-loaded
returns-clause-loaded c = one_load
