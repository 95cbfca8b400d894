use Rattle.std.proofs.Common.{inl}
use Rattle.gixcfg_commands.proofs.Unsetting.{by_no_test}
use Rattle.gixcfg_commands.proofs.edits.text_in_place.Goals as goal

pub returns-in-Ok : goal.returns-in-Ok
returns-in-Ok c = let found = c.in-Ok.ensures.found in inl (found.0, found.1, c.meant_text.ensures found.0 found.2)

pub returns-in-Err : goal.returns-in-Err
returns-in-Err c = by_no_test _ _ c.in-Err.trouble c.in-Err.ensures.refused
