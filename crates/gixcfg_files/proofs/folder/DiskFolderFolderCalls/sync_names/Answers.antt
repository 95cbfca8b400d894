use Rattle.std.proofs.Common.{subst, sym}
use Rattle.gixcfg_files.specs.Replacing.{HasMade}
use Rattle.gixcfg_files.proofs.Making.{made_settling}
use Rattle.gixcfg_files.proofs.folder.DiskFolderFolderCalls.sync_names.Goals as goal

pub returns-then-self : goal.returns-then-self
returns-then-self g c = λ first before had.
    let was = subst (λ view. HasMade first view before) (sym c.self.view_is) had in
    (was.0, made_settling _ before _ _ _ c.sync_folder.result c.sync_folder.ensures was.1)
