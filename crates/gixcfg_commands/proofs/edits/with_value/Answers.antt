use Rattle.std.proofs.Common.{inl, inr, refl, rules}
use Rattle.gixcfg_commands.proofs.edits.with_value.Goals as goal

pub returns-in-Ok : goal.returns-in-Ok
returns-in-Ok c = inl (c.in-Ok.value, c.in-Ok.ensures, search rules)

pub returns-in-Err : goal.returns-in-Err
returns-in-Err c = inr (c.in-Err.trouble, c.in-Err.ensures, refl)
