use Rattle.std.proofs.Common.{false, subst, sym}
use Rattle.gixcfg_files.specs.Replacing.{HasMade}
use Rattle.gixcfg_files.proofs.Acting.{editing_on, with_same, lock_put}
use Rattle.gixcfg_files.proofs.Making.{made_on}
use Rattle.gixcfg_files.proofs.folder.DiskFolderFolderCalls.read.Goals as goal

pub invariant_of-self : goal.invariant_of-self
invariant_of-self g c = editing_on _ _ _ _ _ _ _ _ _ c.read_at.ensures.grows c.self.invariant

pub invariant_of-self-in_err-text-in-Some : goal.invariant_of-self-in_err-text-in-Some
invariant_of-self-in_err-text-in-Some g c =
    with_same _ _ _ _ _ _ c.self.inside.is_same false _ (λ e. absurd (cc e)) (editing_on _ _ _ _ _ _ _ _ _ c.read_again.ensures.grows c.self.invariant)

pub invariant_of-self-in-Some : goal.invariant_of-self-in-Some
invariant_of-self-in-Some g c =
    with_same _ _ _ _ _ _ c.self.inside.is_same _ _
    (λ e. c.in_ok-text-in-Some.ensures.again e c.self.inside.spot.lock.now (lock_put _ _ _ _ _ c.self.inside.lock _ _ c.self.invariant c.in-Some.field-0 c.in-Some.is))
    (editing_on _ _ _ _ _ _ _ _ _ c.read_again.ensures.grows c.self.invariant)

pub invariant_of-self-in-None : goal.invariant_of-self-in-None
invariant_of-self-in-None g c = editing_on _ _ _ _ _ _ _ _ _ c.read_at-in-None.ensures.grows c.self.invariant

pub returns-then-ne : goal.returns-then-ne
returns-then-ne g c = λ first before had.
    let was = subst (λ view. HasMade first view before) (sym c.self.view_is) had in
    (was.0, made_on _ before _ _ _ c.read_at.ensures.grows was.1)

pub returns-in_err-text-in-Some : goal.returns-in_err-text-in-Some
returns-in_err-text-in-Some g c = λ first before had.
    let was = subst (λ view. HasMade first view before) (sym c.self.view_is) had in
    (was.0, made_on _ before _ _ _ c.read_again.ensures.grows was.1)

pub returns-in_ok-text-in-Some : goal.returns-in_ok-text-in-Some
returns-in_ok-text-in-Some g c = λ first before had.
    let was = subst (λ view. HasMade first view before) (sym c.self.view_is) had in
    (was.0, made_on _ before _ _ _ c.read_again.ensures.grows was.1)

pub returns-in-None : goal.returns-in-None
returns-in-None g c = λ first before had.
    let was = subst (λ view. HasMade first view before) (sym c.self.view_is) had in
    (was.0, made_on _ before _ _ _ c.read_at-in-None.ensures.grows was.1)
