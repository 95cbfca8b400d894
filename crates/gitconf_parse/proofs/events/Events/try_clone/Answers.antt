use Rattle.gitconf_parse.proofs.events.Events.try_clone.Goals as goal

pub invariant_of-result : goal.invariant_of-result
invariant_of-result c = rw (c.in_ok-buffer.ensures.items, c.deref.ensures.value, c.in_ok-copies.ensures.items, c.deref-2.ensures.value, c.in_ok-events.ensures) c.self.invariant

pub returns : goal.returns
returns c = rw (c.in_ok-buffer.ensures.items, c.deref.ensures.value, c.in_ok-events.ensures) c.self.view_is
