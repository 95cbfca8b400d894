use Rattle.gitconf_sections.specs.Walks.{shown_section, with_name_left}
use Rattle.gitconf_store.proofs.Places.NamedSections.{any_with_name}
use Rattle.gitconf_store.proofs.store.Store.has_section.Goals as goal

pub returns : goal.returns
returns c =
    let inside = c.self.inside in
    any_with_name inside.buffer.items inside.copies.items inside.front.items inside.meta.value inside.sections c.args.self.now c.args.section_name.now
    shown_section with_name_left c.with_name.result c.next.new.self c.next.result c.is_some.result
    c.self.invariant.sections_within c.self.view_is c.next.ensures.steps c.with_name.ensures.left c.is_some.ensures
