use Rattle.std.proofs.Common.{inl}
use Rattle.gixcfg_commands.proofs.Unsetting.{by_no_test}
use Rattle.gixcfg_commands.proofs.edits.without_entries.Goals as goal

pub returns-in-Ok : goal.returns-in-Ok
returns-in-Ok c = inl (c.in-Ok.ensures.found.0, c.in-Ok.ensures.found.1, c.without_meant.ensures c.in-Ok.ensures.found.0 c.in-Ok.ensures.found.2)

pub returns-in-Err : goal.returns-in-Err
returns-in-Err c = by_no_test _ _ c.in-Err.trouble c.in-Err.ensures.refused
