use Rattle.gitconf_lookups.proofs.Asking.{ComputesKey-call}
use Rattle.gitconf_lookups.proofs.filters.passes.Goals as goal

pub returns-clause-exact : goal.returns-clause-exact
returns-clause-exact g c = λ keeps h. ComputesKey-call keeps h c.filter.ensures
