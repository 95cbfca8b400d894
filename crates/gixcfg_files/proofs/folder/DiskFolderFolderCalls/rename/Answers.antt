use Rattle.std.proofs.Common.{None, ap, option_map, subst, sym}
use Rattle.gixcfg_files.proofs.Acting.{editing_on, with_draft, ready}
use Rattle.gixcfg_files.specs.Replacing.{HasMade}
use Rattle.gixcfg_files.proofs.Making.{made_failed, made_on, made_renaming}
use Rattle.gixcfg_files.proofs.folder.DiskFolderFolderCalls.rename.Goals as goal

pub rename_made-requires : goal.rename_made-requires
rename_made-requires g c = ready _ _ _ _ c.self.inside.draft _ _ _ c.self.invariant c.in-Some.draft c.in-Some.is c.if-self.true

pub invariant_of-self : goal.invariant_of-self
invariant_of-self g c = editing_on _ _ _ _ _ _ _ _ _ c.rename_made.ensures.grows c.self.invariant

pub invariant_of-self-2 : goal.invariant_of-self-2
invariant_of-self-2 g c = with_draft _ _ _ _ c.self.inside.draft None _ _ _ tt (editing_on _ _ _ _ _ _ _ _ _ c.rename_made.ensures.grows c.self.invariant)

pub returns-in_err-rename_made-in-Some : goal.returns-in_err-rename_made-in-Some
returns-in_err-rename_made-in-Some g c = λ first before had.
    let was = subst (λ view. HasMade first view before) (sym c.self.view_is) had in
    (was.0, made_failed _ before _ _ _ c.from_residual.result c.from_residual.ensures.0 (made_on _ before _ _ _ c.rename_made.ensures.grows was.1))

pub returns : goal.returns
returns g c = λ first before had.
    let was = subst (λ view. HasMade first view before) (sym c.self.view_is) had in
    (was.0, made_renaming _ c.self.inside.draft _ _ _ before c.args._from.now c.args._to.now c.in-Some.draft c.in-Some.is c.if-self.true _ (ap (option_map (λ made. made.file.original.identity)) c.in-Some.is) _ _ c.in_ok-rename_made-in-Some.ensures.renamed c.self.invariant was.1)
