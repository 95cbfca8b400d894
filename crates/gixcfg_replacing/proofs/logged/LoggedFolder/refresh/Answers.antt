use Rattle.std.proofs.Common.{◌∙◌, ◌∷◌, ap, refl}
use Rattle.gixcfg_replacing.specs.declared.call.Call.TheVariants.{Fault}
use Rattle.gixcfg_replacing.proofs.Logging.{after_same, fault_does, none_since}
use Rattle.gixcfg_replacing.proofs.logged.LoggedFolder.refresh.Goals as goal

pub returns-in-Some-clause-others : goal.returns-in-Some-clause-others
returns-in-Some-clause-others g c = fault_does g.C.FolderCalls.has_made _ _ (c.failed.ensures.kept ∙ ap (λ calls. Fault ∷ calls) c.in_ok-reserve.ensures.items) (none_since g.C.FolderCalls.has_made c.failed.ensures.folder)

pub returns-then-branch-clause-others : goal.returns-then-branch-clause-others
returns-then-branch-clause-others g c = after_same g.C.FolderCalls.has_made {a = c.args.self.now} c.look.ensures.others c.in_ok-reserve.ensures.items (λ first before had. had)
