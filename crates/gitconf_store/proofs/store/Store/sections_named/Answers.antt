use Rattle.std.specs.Option.{option_copied}
use Rattle.gitconf_sections.specs.Walks.{named_left}
use Rattle.gitconf_text.specs.Sections.{is_named}
use Rattle.gitconf_state.specs.Lookup as state
use Rattle.gitconf_state.specs.State.{SectionState}
use Rattle.gitconf_store.proofs.Places.Named.{named_so}
use Rattle.gitconf_lookups.proofs.SectionsKept.{found_kept}
use Rattle.gitconf_views.proofs.Viewing.{lent_kept}
use Rattle.gitconf_store.proofs.store.Store.sections_named.Goals as goal

pub returns : goal.returns
returns c =
    let inside = c.self.inside in
    let name = c.args.name.now in
    let subsection = option_copied c.args.subsection_name in
    found_kept inside.buffer.items inside.copies.items (is_named name subsection) (λ (s : SectionState). state.is_named name subsection (state.listing s))
    (named_so inside.buffer.items inside.copies.items name subsection)
    inside.front.items inside.meta.value inside.sections c.args.self.now c.deref.result.now (named_left c.named.result)
    c.deref.ensures.value c.self.invariant.sections_within c.named.ensures.left c.self.view_is

pub invariant_of-result : goal.invariant_of-result
invariant_of-result c =
    let inside = c.self.inside in
    record {
      viewed = lent_kept inside.buffer.items inside.copies.items c.deref.result.now c.deref-2.result.now inside.front.items inside.meta.value inside.sections (is_named c.args.name.now (option_copied c.args.subsection_name)) (named_left c.named.result)
          c.deref.ensures.value c.deref-2.ensures.value c.self.invariant c.named.ensures.left;
    }
