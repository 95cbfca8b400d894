use Rattle.std.proofs.Common.{◌∙◌, [], ◌∷◌, ap}
use Rattle.gixcfg_replacing.specs.declared.call.Call.TheVariants.{Fault}
use Rattle.gixcfg_replacing.proofs.Logging.{fault_does, made_until, none_since}
use Rattle.gixcfg_replacing.proofs.logged.LoggedFolderFolder.make.Goals as goal

pub returns-clause-made : goal.returns-clause-made
returns-clause-made g c = (fault_does g.C.FolderCalls.has_made c.args.self.now c.failed.new.self (c.failed.ensures.kept ∙ ap (λ calls. Fault ∷ calls) c.in_ok-reserve.ensures.items) (none_since g.C.FolderCalls.has_made c.failed.ensures.folder)).alone c.args.name.now

pub returns-clause-alone : goal.returns-clause-alone
returns-clause-alone g c = λ other apart. (fault_does g.C.FolderCalls.has_made c.args.self.now c.failed.new.self (c.failed.ensures.kept ∙ ap (λ calls. Fault ∷ calls) c.in_ok-reserve.ensures.items) (none_since g.C.FolderCalls.has_made c.failed.ensures.folder)).alone other
