use Rattle.std.proofs.Common.{IfSome, subst}
use Rattle.gixcfg_files.specs.Acts.{IsHeld, IsOurs}
use Rattle.gixcfg_files.proofs.Acting.{each, put_linked, grows_on}
use Rattle.gixcfg_files.proofs.folder.make_signed.Goals as goal

pub returns-in_default-clause-grows : goal.returns-in_default-clause-grows
returns-in_default-clause-grows g c = grows_on _ _ _ c.make_held.ensures.grows c.make_at.ensures.grows

pub returns-in-Ok-clause-made : goal.returns-in-Ok-clause-made
returns-in-Ok-clause-made g c =
    put_linked c.in-Some.made _ c.args.path.now c.sign_and_link.ensures.file c.in_ok-at.ensures.ok _ _ c.sign_and_link.ensures.grows
    (each (IsHeld c.deref.result.now c.in-Some.made) (IsOurs c.in-Some.made) (λ acts held. held.is_put.ours) _
    (subst (λ it. IfSome it (λ made. IfSome (g.D.EditCalls.told c.make_held.new.calls) (IsHeld c.deref.result.now made))) c.in-Some.is c.in_ok-made.ensures.made)) c.in-Ok.ensures.linked

pub returns-in-Ok-clause-grows : goal.returns-in-Ok-clause-grows
returns-in-Ok-clause-grows g c = grows_on _ _ _ c.make_held.ensures.grows c.sign_and_link.ensures.grows

pub returns-in-Err-clause-grows : goal.returns-in-Err-clause-grows
returns-in-Err-clause-grows g c = grows_on _ _ _ c.make_held.ensures.grows c.sign_and_link.ensures.grows

pub returns-clause-grows : goal.returns-clause-grows
returns-clause-grows g c = grows_on _ _ _ (grows_on _ _ _ c.make_held.ensures.grows c.sign_and_link.ensures.grows) c.make_at-in-Err-2.ensures.grows
