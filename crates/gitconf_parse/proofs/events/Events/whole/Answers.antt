use Rattle.gitconf_parse.proofs.ReadSelections.{read_fits}
use Rattle.gitconf_parse.proofs.events.Events.whole.Goals as goal

pub invariant_of-result : goal.invariant_of-result
invariant_of-result c =
    read_fits c.args.input.now c.in_ok-buffer.buffer.items c.decoded.new.copies.items c.in_ok-events.events c.in_ok-events-2.events
    c.in_ok-events.ensures.found c.in_ok-buffer.ensures.items c.in_ok-events.ensures.fits
    (rw c.deref.ensures.value at c.in_ok-events-2.ensures.tokens) (rw c.deref.ensures.value at c.in_ok-events-2.ensures.shown)
