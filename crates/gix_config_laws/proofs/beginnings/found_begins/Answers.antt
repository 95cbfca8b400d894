use Rattle.std.proofs.Common.{subst, sym}
use Rattle.std.specs.Prelude.{IfSome}
use Rattle.gitconf_state.specs.Clean.{IsClean}
use Rattle.gix_config_laws.specs.Beginnings.{AlwaysReads}
use Rattle.gix_config_laws.proofs.ReadsBack.{runs_read}
use Rattle.gix_config_laws.proofs.beginnings.found_begins.Goals as goal

pub returns-in-Some : goal.returns-in-Some
returns-in-Some c = subst (λ o. IfSome o (λ f. IsClean f → AlwaysReads f)) (sym c.in-Some.is)
    (λ clean calls new runs neat. runs_read calls c.in-Some.file new runs neat c.sections.ensures.state.items clean)
