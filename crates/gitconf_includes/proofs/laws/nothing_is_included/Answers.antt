use Rattle.gitconf_includes.proofs.Nothing.{nothing_put_in, nothing_resolved}
use Rattle.gitconf_includes.proofs.laws.nothing_is_included.Goals as goal

pub returns-clause-expanded : goal.returns-clause-expanded
returns-clause-expanded c = nothing_put_in

pub returns-clause-resolved : goal.returns-clause-resolved
returns-clause-resolved c = nothing_resolved
