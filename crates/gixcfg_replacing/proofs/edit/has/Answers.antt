use Rattle.gixcfg_replacing.proofs.Runs.{locked_keeps}
use Rattle.gixcfg_replacing.proofs.edit.has.Goals as goal

pub returns-in_err-found-clause-kept : goal.returns-in_err-found-clause-kept
returns-in_err-found-clause-kept g c = locked_keeps _ _ _ _ c.requires (c.read.ensures.respect _) (c.read.ensures.alone _)

pub returns-clause-kept : goal.returns-clause-kept
returns-clause-kept g c = locked_keeps _ _ _ _ c.requires (c.read.ensures.respect _) (c.read.ensures.alone _)
