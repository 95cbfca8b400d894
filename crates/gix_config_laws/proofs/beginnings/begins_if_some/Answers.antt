use Rattle.std.proofs.Common.{subst, sym}
use Rattle.std.specs.Prelude.{IfOk, IfSome}
use Rattle.gitconf_state.specs.Clean.{IsClean}
use Rattle.gix_config_laws.specs.Beginnings.{AlwaysReads}
use Rattle.gix_config_laws.proofs.beginnings.begins_if_some.Goals as goal

pub returns-in-Ok : goal.returns-in-Ok
returns-in-Ok g c = subst (λ r. IfOk r (λ o. IfSome o (λ f. IsClean f → AlwaysReads f))) (sym c.in-Ok.is) c.found_begins.ensures
