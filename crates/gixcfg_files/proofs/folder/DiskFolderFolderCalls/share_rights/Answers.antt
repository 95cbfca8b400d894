use Rattle.std.proofs.Common.{subst, sym}
use Rattle.gixcfg_files.proofs.Acting.{may_give, editing_on}
use Rattle.gixcfg_files.specs.Replacing.{HasMade}
use Rattle.gixcfg_files.proofs.Making.{made_failed, made_on, made_sharing}
use Rattle.gixcfg_files.proofs.folder.DiskFolderFolderCalls.share_rights.Goals as goal

pub share-requires : goal.share-requires
share-requires g c = may_give (λ found. (found.now.original, found.now.text.items)) _ _ c.self.inside.found _ c.self.inside.draft _ _ _ c.self.invariant c.in-Some.found c.in-Some.is c.in-Some-draft.draft c.in-Some-draft.is

pub invariant_of-self : goal.invariant_of-self
invariant_of-self g c = editing_on _ _ _ _ _ _ _ _ _ c.share.ensures c.self.invariant

pub invariant_of-self-2 : goal.invariant_of-self-2
invariant_of-self-2 g c = editing_on _ _ _ _ _ _ _ _ _ c.share.ensures c.self.invariant

pub returns-in_err-self-inside : goal.returns-in_err-self-inside
returns-in_err-self-inside g c = λ first before had.
    let was = subst (λ view. HasMade first view before) (sym c.self.view_is) had in
    (was.0, made_failed _ before _ _ _ c.from_residual.result c.from_residual.ensures.0 (made_on _ before _ _ _ c.share.ensures was.1))

pub returns : goal.returns
returns g c = λ first before had.
    let was = subst (λ view. HasMade first view before) (sym c.self.view_is) had in
    (was.0, made_sharing _ before _ c.args._from.now c.args._to.now _ (made_on _ before _ _ _ c.share.ensures was.1))
