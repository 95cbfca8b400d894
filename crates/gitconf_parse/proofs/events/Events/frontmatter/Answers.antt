use Rattle.std.proofs.Common.{◌∙◌, ap, map}
use Rattle.gitconf_items.specs.EventList.{EventList}
use Rattle.gitconf_items.specs.ShownEvents.{shown_token, shown_event}
use Rattle.gitconf_items.specs.Sections.{is_header_event, is_shown_header, front_of}
use Rattle.gitconf_items.proofs.Shown.{shown_list, front_of-map, header_told}
use Rattle.gitconf_parse.proofs.events.Events.frontmatter.Goals as goal

pub returns : goal.returns
returns c =
    let i = c.self.inside in
    rw (c.deref.ensures.value, c.deref-2.ensures.value, c.split_front.ensures.front, c.as_slice.ensures) at c.over.ensures
    ∙ front_of-map is_header_event is_shown_header (shown_event i.buffer.items i.copies.items) (header_told i.buffer.items i.copies.items) i.events
    ∙ ap (front_of is_shown_header) (shown_list _ _ _ c.self.invariant.shown ∙ ap (λ (l : EventList). map shown_token l.tokens) c.self.view_is)
