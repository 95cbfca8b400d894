use Rattle.std.proofs.Common.{Err, inl, refl, subst, sym}
use Rattle.gixcfg_files.specs.Ends.{TellsAs}
use Rattle.gixcfg_files.specs.declared.fault.Fault.TheVariants.{Locked}
use Rattle.gixcfg_files.proofs.place.outcome.Goals as goal

pub returns-in_ok-unknown-in-Locked : goal.returns-in_ok-unknown-in-Locked
returns-in_ok-unknown-in-Locked c =
    let lock = c.in_ok-unknown-in-Locked.field-0 in
    subst (λ ended. TellsAs ended (Err (Locked lock))) (sym c.in-Locked.is) (inl (lock, refl))

pub returns-in_ok-unknown-in-Drafted : goal.returns-in_ok-unknown-in-Drafted
returns-in_ok-unknown-in-Drafted c =
    let lock = c.in_ok-unknown-in-Drafted.field-0 in
    subst (λ ended. TellsAs ended (Err (Locked lock))) (sym c.in-Drafted.is) (inl (lock, refl))
