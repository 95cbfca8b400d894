use Rattle.gitconf_views.specs.Views.{shown}
use Rattle.gitconf_lookups.proofs.Asking.{ComputesKey-call}
use Rattle.gitconf_lookups.proofs.print.is_kept.Goals as goal

pub returns-clause-exact : goal.returns-clause-exact
returns-clause-exact g c = λ keeps h. ComputesKey-call (λ r. keeps (shown r)) h c.filter.ensures
