use Rattle.gitconf_store.proofs.Files.Woven.{woven_fits, woven_state}
use Rattle.gitconf_store.proofs.store.Store.weave.Goals as goal

pub invariant_of-self : goal.invariant_of-self
invariant_of-self c =
    woven_fits c.self.inside.buffer.items c.self.inside.front.items c.self.inside.meta.value c.self.inside.sections c.weave.new.self c.args.runs.now c.args.first c.weave.ensures c.self.inside.copies.items c.self.invariant

pub returns : goal.returns
returns c =
    rw (← c.self.view_is) (woven_state c.self.inside.buffer.items c.self.inside.front.items c.self.inside.meta.value c.self.inside.sections c.weave.new.self c.args.runs.now c.args.first c.weave.ensures)
