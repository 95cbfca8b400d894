use Rattle.std.proofs.Common.{inl, inr, refl}
use Rattle.gixcfg_commands.proofs.edits.given_text.Goals as goal

pub returns-in-Ok : goal.returns-in-Ok
returns-in-Ok c = inl (c.give.new.file, c.in-Ok.ensures.done, c.with_comment.ensures)

pub returns-in-Err : goal.returns-in-Err
returns-in-Err c = inr (c.in-Err.trouble, c.in-Err.ensures.refused, refl)
