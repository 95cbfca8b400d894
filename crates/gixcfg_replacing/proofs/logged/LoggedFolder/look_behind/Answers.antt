use Rattle.std.proofs.Common.{refl}
use Rattle.gixcfg_replacing.proofs.Logging.{none_does, does_on}
use Rattle.gixcfg_replacing.proofs.logged.LoggedFolder.look_behind.Goals as goal

pub returns-in-Err-clause-others : goal.returns-in-Err-clause-others
returns-in-Err-clause-others g c = does_on g.C.FolderCalls.has_made _ _ _ c.look.ensures.others (none_does g.C.FolderCalls.has_made _ _ refl (λ first before had. had))
