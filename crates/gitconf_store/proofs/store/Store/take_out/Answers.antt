use Rattle.gitconf_store.proofs.Places.Numbering.{without_fits, without_state}
use Rattle.gitconf_store.proofs.store.Store.take_out.Goals as goal

pub invariant_of-self : goal.invariant_of-self
invariant_of-self c =
    let inside = c.self.inside in
    without_fits c.args.id inside.buffer.items inside.copies.items inside.front.items inside.meta.value inside.sections c.remove.new.self c.remove.ensures.rest c.self.invariant

pub returns : goal.returns
returns c =
    let inside = c.self.inside in
    without_state c.args.id inside.buffer.items inside.front.items inside.meta.value inside.sections c.remove.new.self c.args.self.now c.remove.ensures.rest c.self.view_is
