use Rattle.std.proofs.Common.{IfSome, subst, ap, option_map, sym}
use Rattle.gixcfg_files.specs.Acts.{IsDraft}
use Rattle.gixcfg_files.proofs.Acting.{editing_on, with_draft, with_lock}
use Rattle.gixcfg_files.specs.Replacing.{HasMade}
use Rattle.gixcfg_files.proofs.Making.{made_on, made_if_locked, made_if_drafted, made_none}
use Rattle.gixcfg_files.proofs.folder.DiskFolderFolderCalls.make.Goals as goal

pub invariant_of-self : goal.invariant_of-self
invariant_of-self g c = editing_on _ _ _ _ _ _ _ _ _ c.make_lock.ensures.grows c.self.invariant

pub invariant_of-self-then-eq : goal.invariant_of-self-then-eq
invariant_of-self-then-eq g c = with_lock _ _ _ _ _ c.self.inside.lock c.in_ok-made.made _ _ c.in_ok-made.ensures.made (editing_on _ _ _ _ _ _ _ _ _ c.make_lock.ensures.grows c.self.invariant)

pub invariant_of-self-in_err-made-2 : goal.invariant_of-self-in_err-made-2
invariant_of-self-in_err-made-2 g c = editing_on _ _ _ _ _ _ _ _ _ c.make_draft.ensures.grows c.self.invariant

pub invariant_of-self-else-eq : goal.invariant_of-self-else-eq
invariant_of-self-else-eq g c =
    with_draft _ _ _ _ c.self.inside.draft c.in_ok-made-2.made _ _ _
    (subst (λ holds. IfSome c.in_ok-made-2.made (λ made. IfSome (g.D.EditCalls.told c.make_draft.new.calls) (IsDraft holds made))) c.is_some-holds.ensures c.in_ok-made-2.ensures.made)
    (editing_on _ _ _ _ _ _ _ _ _ c.make_draft.ensures.grows c.self.invariant)

pub returns-in_err-made : goal.returns-in_err-made
returns-in_err-made g c = λ first before had.
    let was = subst (λ view. HasMade first view before) (sym c.self.view_is) had in
    (was.0, made_none _ before _ c.args.name.now _ c.from_residual.result c.from_residual.ensures.0 (made_on _ before _ _ _ c.make_lock.ensures.grows was.1))

pub returns-in_err-made-2 : goal.returns-in_err-made-2
returns-in_err-made-2 g c = λ first before had.
    let was = subst (λ view. HasMade first view before) (sym c.self.view_is) had in
    (was.0, made_none _ before _ c.args.name.now _ c.from_residual-in_err-made-2.result c.from_residual-in_err-made-2.ensures.0 (made_on _ before _ _ _ c.make_draft.ensures.grows was.1))

pub returns-in_ok-made : goal.returns-in_ok-made
returns-in_ok-made g c = λ first before had.
    let was = subst (λ view. HasMade first view before) (sym c.self.view_is) had in
    (was.0, made_if_locked _ before _ c.args.name.now _ c.is_some-is_made.result (sym c.if-eq.ensures) (made_on _ before _ _ _ c.make_lock.ensures.grows was.1))

pub returns-in_ok-made-2 : goal.returns-in_ok-made-2
returns-in_ok-made-2 g c = λ first before had.
    let was = subst (λ view. HasMade first view before) (sym c.self.view_is) had in
    (was.0, made_if_drafted _ before _ (λ made. made.file.original.identity) c.args.name.now _ c.in_ok-made-2.made c.is_some-is_made-else-eq.result c.is_some-is_made-else-eq.ensures (sym c.if-eq.ensures) (made_on _ before _ _ _ c.make_draft.ensures.grows was.1))
