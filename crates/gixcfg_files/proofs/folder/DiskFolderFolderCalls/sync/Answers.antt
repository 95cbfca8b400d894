use Rattle.std.proofs.Common.{ap, option_map, subst, sym}
use Rattle.gixcfg_files.specs.Replacing.{HasMade}
use Rattle.gixcfg_files.proofs.Making.{made_syncing}
use Rattle.gixcfg_files.proofs.folder.DiskFolderFolderCalls.sync.Goals as goal

pub returns-in-Some : goal.returns-in-Some
returns-in-Some g c = λ first before had.
    let was = subst (λ view. HasMade first view before) (sym c.self.view_is) had in
    (was.0, made_syncing _ before _ c.args._name.now _ (ap (option_map (λ made. made.file.original.identity)) c.in-Some.is) _ _ c.sync.result c.sync.ensures was.1)
