use Rattle.gitconf_sections.specs.Walks.{sections_left}
use Rattle.gitconf_views.proofs.Viewing.{is_state, lent_viewed}
use Rattle.gitconf_store.proofs.store.Store.sections.Goals as goal

pub returns-clause-state : goal.returns-clause-state
returns-clause-state c =
    let inside = c.self.inside in
    is_state inside.buffer.items inside.copies.items inside.front.items inside.meta.value inside.sections c.args.self.now c.self.invariant c.iter.ensures.numbered c.self.view_is

pub invariant_of-result : goal.invariant_of-result
invariant_of-result c =
    let inside = c.self.inside in
    record {
      viewed = lent_viewed inside.buffer.items inside.copies.items c.deref.result.now c.deref-2.result.now inside.front.items inside.meta.value inside.sections (sections_left c.iter.result)
          c.deref.ensures.value c.deref-2.ensures.value c.self.invariant c.iter.ensures.left;
    }
