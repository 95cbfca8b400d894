use Rattle.std.proofs.Common.{inl, inr, refl}
use Rattle.gixcfg_commands.proofs.edits.set_in.Goals as goal

pub returns-in-Ok : goal.returns-in-Ok
returns-in-Ok c = inl (c.in-Ok.ensures.made.0, c.in-Ok.file, c.in-Ok.ensures.made.1, c.in-Ok.ensures.made.2, c.with_value.ensures)

pub returns-in-Err : goal.returns-in-Err
returns-in-Err c = inr (c.in-Err.trouble, refl, c.in-Err.ensures.refused)
