use Rattle.std.proofs.Common.{Some, ap, sym, ◌∙◌}
use Rattle.std.specs.Option.{option_map}
use Rattle.gitconf_sections.specs.Section.{viewed}
use Rattle.gitconf_views.specs.Store.{section_under}
use Rattle.gitconf_store.proofs.Places.Numbering.{numbered_shown, numbered_viewed}
use Rattle.gitconf_store.proofs.store.Store.section_by_id.Goals as goal

pub returns-in-None : goal.returns-in-None
returns-in-None c =
    let b = c.self.inside.buffer.items in
    ap (λ o. option_map (section_under b c.args.id) (option_map viewed o)) (sym c.in-None.is)
    ∙ ap (option_map (section_under b c.args.id)) c.get.ensures.section
    ∙ numbered_shown c.args.id b c.self.inside.front.items c.self.inside.meta.value c.self.inside.sections c.args.self.now c.get.ensures.numbered.once c.self.view_is

pub returns-in-Some : goal.returns-in-Some
returns-in-Some c =
    let b = c.self.inside.buffer.items in
    ap Some c.view_of.ensures
    ∙ ap (λ lent. Some (section_under lent c.args.id (viewed c.in-Some.section))) c.deref.ensures.value
    ∙ ap (λ o. option_map (section_under b c.args.id) (option_map viewed o)) (sym c.in-Some.is)
    ∙ ap (option_map (section_under b c.args.id)) c.get.ensures.section
    ∙ numbered_shown c.args.id b c.self.inside.front.items c.self.inside.meta.value c.self.inside.sections c.args.self.now c.get.ensures.numbered.once c.self.view_is

pub view_of-requires : goal.view_of-requires
view_of-requires c =
    let inside = c.self.inside in
    numbered_viewed c.args.id inside.buffer.items inside.copies.items c.deref.result.now c.deref-in-Some.result.now inside.front.items inside.meta.value inside.sections (viewed c.in-Some.section)
    c.deref.ensures.value c.deref-in-Some.ensures.value c.self.invariant (sym c.get.ensures.section ∙ ap (option_map viewed) c.in-Some.is)
