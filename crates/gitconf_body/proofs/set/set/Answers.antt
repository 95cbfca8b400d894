use Rattle.std.proofs.Common.{arith, subst}
use Rattle.std.specs.Prelude.{IsErrOf}
use Rattle.gitconf_body.proofs.Changing.{place_read, room_asked}
use Rattle.gitconf_body.proofs.set.set.Goals as goal

pub set_at-requires-clause-place : goal.set_at-requires-clause-place
set_at-requires-clause-place c = place_read c.args.key.now _ _ _ _ _ c.deref.ensures.value c.deref-2.ensures.value c.in_ok-place.ensures.place

pub returns-clause-refused : goal.returns-clause-refused
returns-clause-refused c =
    let asked = room_asked c.args.editor.now c.args.key.now c.args.value.now _ _ _ _ c.deref.ensures.value c.deref-2.ensures.value in
    λ big. absurd (let no = subst (λ r. IsErrOf r 3) c.in_ok-place.was (c.place_to_set.ensures.too_large.1 (omega (arith, asked, big))) in cc)
