use Rattle.std.proofs.Common.{Ok, Err, inr, refl, rules}
use Rattle.bstr.specs.Owned.{bstring_bytes}
use Rattle.gixcfg_commands.specs.Plainly.{Prints, Tells}
use Rattle.gixcfg_commands.proofs.edits.edited_bytes.Goals as goal

pub returns-in-Ok : goal.returns-in-Ok
returns-in-Ok c = inr (Prints (bstring_bytes c.in-Ok.edited), (Ok c.in-Ok.edited, c.in-Ok.ensures, refl), search rules)

pub returns-in-Err : goal.returns-in-Err
returns-in-Err c = inr (Tells c.in-Err.trouble, (Err c.in-Err.trouble, c.in-Err.ensures, refl), refl)
