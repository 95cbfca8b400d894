use Rattle.std.proofs.Common.{IfSome, subst}
use Rattle.gixcfg_files.specs.Acts.{IsPut}
use Rattle.gixcfg_files.proofs.Acting.{held_so, put_ours, grows_on}
use Rattle.gixcfg_files.proofs.folder.make_held.Goals as goal

pub returns-then-is_kept-clause-made : goal.returns-then-is_kept-clause-made
returns-then-is_kept-clause-made g c =
    held_so c.args.path.now c.in-Some.made _ _ c.is_kept.ensures.grows
    (subst (λ it. IfSome it (λ made. IfSome (g.D.EditCalls.told c.make_at.new.calls) (IsPut c.args.path.now made))) c.in-Some.is c.in_ok-made.ensures.made) (c.is_kept.ensures.held c.if-is_kept.true)

pub returns-then-is_kept-clause-grows : goal.returns-then-is_kept-clause-grows
returns-then-is_kept-clause-grows g c = grows_on _ _ _ c.make_at.ensures.grows c.is_kept.ensures.grows

pub remove_made-requires : goal.remove_made-requires
remove_made-requires g c =
    put_ours c.args.path.now c.in-Some.made _ _ c.is_kept.ensures.grows
    (subst (λ it. IfSome it (λ made. IfSome (g.D.EditCalls.told c.make_at.new.calls) (IsPut c.args.path.now made))) c.in-Some.is c.in_ok-made.ensures.made)

pub returns-clause-grows : goal.returns-clause-grows
returns-clause-grows g c = grows_on _ _ _ (grows_on _ _ _ c.make_at.ensures.grows c.is_kept.ensures.grows) c.remove_made.ensures
