use Rattle.gitconf_includes.proofs.Beginnings.{beginning_stays, resolved_beginning_stays}
use Rattle.gitconf_includes.proofs.laws.want_of_memory_leaves_a_beginning.Goals as goal

pub returns-clause-expanded : goal.returns-clause-expanded
returns-clause-expanded c = beginning_stays

pub returns-clause-resolved : goal.returns-clause-resolved
returns-clause-resolved c = resolved_beginning_stays
