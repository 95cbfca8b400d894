use Rattle.std.proofs.Common.{IfSome, is_some, sym, subst, ap, option_map, ◌++◌}
use Rattle.gixcfg_files.specs.Acts.{IsPut, IsDraft}
use Rattle.gixcfg_files.proofs.Acting.{editing_on, with_draft, with_lock}
use Rattle.gixcfg_replacing.specs.Changes.{if_done, Removing}
use Rattle.gixcfg_files.specs.Replacing.{HasMade}
use Rattle.gixcfg_files.proofs.Making.{made_if_removed, redrafted, undrafted}
use Rattle.gixcfg_files.proofs.folder.DiskFolderFolderCalls.remove.Goals as goal

pub invariant_of-self : goal.invariant_of-self
invariant_of-self g c =
    with_lock _ _ _ _ _ c.self.inside.lock _ _ _
    (subst (λ l. IfSome l (λ file. IfSome (g.D.EditCalls.told c.remove_if_made.new.calls) (IsPut c.self.inside.spot.lock.now file))) (sym c.take.ensures.after) tt)
    (editing_on _ _ _ _ _ _ _ _ _ c.remove_if_made.ensures c.self.invariant)

pub invariant_of-self-else-eq : goal.invariant_of-self-else-eq
invariant_of-self-else-eq g c =
    with_draft _ _ _ _ c.self.inside.draft _ _ _ _
    (subst (λ d. IfSome d (λ file. IfSome (g.D.EditCalls.told c.remove_if_made-else-eq.new.calls) (IsDraft (is_some c.self.inside.manner.process) file))) (sym c.take-else-eq.ensures.after) tt)
    (editing_on _ _ _ _ _ _ _ _ _ c.remove_if_made-else-eq.ensures c.self.invariant)

pub returns-then-eq : goal.returns-then-eq
returns-then-eq g c = λ first before had.
    let was = subst (λ view. HasMade first view before) (sym c.self.view_is) had in
    (was.0, made_if_removed _ before _ c.args.name.now _ _ c.remove_if_made.result c.remove_if_made.ensures was.1)

pub returns-else-eq : goal.returns-else-eq
returns-else-eq g c = λ first before had.
    let was = subst (λ view. HasMade first view before) (sym c.self.view_is) had in (
      was.0,
      redrafted _ (if_done c.remove_if_made-else-eq.result (Removing c.args.name.now) ++ before) _ _ (sym (ap (option_map (λ made. made.file.original.identity)) c.take-else-eq.ensures.after)) _
          (made_if_removed _ before _ c.args.name.now _ _ c.remove_if_made-else-eq.result c.remove_if_made-else-eq.ensures (undrafted _ before _ _ was.1)),
    )
