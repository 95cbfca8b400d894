use Rattle.std.proofs.Common.{refl}
use Rattle.gitconf_print.proofs.RunLemmas.{but_begun, but_fault, but_none, but_second_begun}
use Rattle.gitconf_print.proofs.items.gather.Goals as goal

pub returns-in_err-write_run-in-None-clause-written : goal.returns-in_err-write_run-in-None-clause-written
returns-in_err-write_run-in-None-clause-written g c =
    but_fault c.from_residual.result _ _ _ _ c.from_residual.ensures.0 (but_begun _ _ _ _ _ refl c.in_err-write_run-in-None.ensures.written)

pub returns-in_err-write_item-in-None-clause-written : goal.returns-in_err-write_item-in-None-clause-written
returns-in_err-write_item-in-None-clause-written g c =
    but_fault c.from_residual-in_err-write_item-in-None.result _ _ _ _ c.from_residual-in_err-write_item-in-None.ensures.0
    (but_second_begun _ _ _ _ _ _ refl c.in_ok-write_run-in-None.ensures.written c.in_err-write_item-in-None.ensures.written)

pub returns-in_ok-write_item-in-None-clause-written : goal.returns-in_ok-write_item-in-None-clause-written
returns-in_ok-write_item-in-None-clause-written g c =
    but_none _ _ _ _ _ _ _ refl (c.none.ensures.value c.args.buffer.now) c.in_ok-write_run-in-None.ensures.written c.in_ok-write_item-in-None.ensures.written
