use Rattle.std.proofs.Common.{Some, ap, sym, ◌∙◌}
use Rattle.std.specs.Prelude.{slice_get}
use Rattle.gitconf_sections.specs.Section.{viewed}
use Rattle.gitconf_state.specs.State.{State}
use Rattle.gitconf_views.specs.Store.{section_under}
use Rattle.gitconf_store.proofs.Places.Numbering.{place_shown, place_viewed}
use Rattle.gitconf_store.proofs.store.Store.section_at.Goals as goal

pub returns : goal.returns
returns c =
    let s = viewed c.at-section.result in
    ap (λ (all : State). slice_get all.sections c.args.position) (sym c.self.view_is)
    ∙ place_shown c.self.inside.buffer.items c.self.inside.sections.entries c.args.position c.id_at-id.result s c.at-section.ensures c.id_at-id.ensures
    ∙ ap (λ lent. Some (section_under lent c.id_at-id.result s)) (sym c.deref.ensures.value)
    ∙ ap Some (sym c.view_of.ensures)

pub view_of-requires : goal.view_of-requires
view_of-requires c =
    let inside = c.self.inside in
    place_viewed inside.buffer.items inside.copies.items c.deref.result.now c.deref-2.result.now inside.sections.entries c.args.position (viewed c.at-section.result)
    c.deref.ensures.value c.deref-2.ensures.value c.self.invariant.sections_within c.self.invariant.items.sections c.at-section.ensures
