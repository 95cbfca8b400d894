use Rattle.std.proofs.Common.{◌∙◌, ap, map}
use Rattle.gitconf_items.specs.EventList.{EventList}
use Rattle.gitconf_items.specs.ShownEvents.{shown_token}
use Rattle.gitconf_items.proofs.Shown.{shown_list}
use Rattle.gitconf_parse.proofs.events.Events.iter.Goals as goal

pub returns : goal.returns
returns c =
    rw (c.deref.ensures.value, c.deref-2.ensures.value, c.as_slice.ensures) at c.over.ensures
    ∙ shown_list _ _ _ c.self.invariant.shown
    ∙ ap (λ (l : EventList). map shown_token l.tokens) c.self.view_is
