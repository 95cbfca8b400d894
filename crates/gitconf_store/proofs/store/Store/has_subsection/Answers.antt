use Rattle.std.specs.Option.{option_copied}
use Rattle.gitconf_sections.specs.Walks.{named_left, shown_section}
use Rattle.gitconf_store.proofs.Places.NamedSections.{any_named}
use Rattle.gitconf_store.proofs.store.Store.has_subsection.Goals as goal

pub returns : goal.returns
returns c =
    let inside = c.self.inside in
    any_named inside.buffer.items inside.copies.items inside.front.items inside.meta.value inside.sections c.args.self.now c.args.section_name.now (option_copied c.args.subsection_name)
    shown_section named_left c.named-sections.result c.next.new.self c.next.result c.is_some.result
    c.self.invariant.sections_within c.self.view_is c.next.ensures.steps c.named-sections.ensures.left c.is_some.ensures
