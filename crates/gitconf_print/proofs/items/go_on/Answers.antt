use Rattle.std.proofs.Common.{refl}
use Rattle.gitconf_print.proofs.RunLemmas.{but_begun, but_fault}
use Rattle.gitconf_print.proofs.items.go_on.Goals as goal

pub returns-in_err-write_run-in-None-clause-written : goal.returns-in_err-write_run-in-None-clause-written
returns-in_err-write_run-in-None-clause-written g c =
    but_fault c.from_residual.result _ _ _ _ c.from_residual.ensures.0 (but_begun _ _ _ _ _ refl c.in_err-write_run-in-None.ensures.written)
