use Rattle.std.proofs.Common.{subst, sym}
use Rattle.std.specs.Prelude.{IfOk}
use Rattle.gitconf_state.specs.Clean.{IsClean}
use Rattle.gix_config_laws.specs.Beginnings.{AlwaysReads}
use Rattle.gix_config_laws.proofs.ReadsBack.{runs_read}
use Rattle.gix_config_laws.proofs.beginnings.begins.Goals as goal

pub returns-in-Ok : goal.returns-in-Ok
returns-in-Ok g c = subst (λ r. IfOk r (λ f. IsClean f → AlwaysReads f)) (sym c.in-Ok.is)
    (λ clean calls new runs neat. runs_read calls c.in-Ok.file new runs neat c.sections.ensures.state.items clean)
