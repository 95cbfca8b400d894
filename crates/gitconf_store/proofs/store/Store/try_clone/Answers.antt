use Rattle.std.proofs.Common.{◌∙◌}
use Rattle.std.specs.List.{each_same}
use Rattle.gitconf_store.proofs.Files.Cloning.{cloned_state, clones_fit}
use Rattle.gitconf_store.proofs.store.Store.try_clone.Goals as goal

pub invariant_of-result : goal.invariant_of-result
invariant_of-result c =
    let s = c.self.inside in
    clones_fit s.buffer.items c.in_ok-buffer.buffer.items s.copies.items c.in_ok-copies.copies.items s.front.items c.in_ok-front.front.items
    s.meta.value c.in_ok-meta.meta.value s.sections c.in_ok-sections.sections
    (each_same _ _ c.in_ok-buffer.ensures.cases.0) (each_same _ _ c.in_ok-copies.ensures.cases.0) c.in_ok-front.ensures.cases
    c.in_ok-meta.ensures.cases c.in_ok-sections.ensures c.self.invariant

pub returns : goal.returns
returns c =
    let s = c.self.inside in
    cloned_state s.buffer.items c.in_ok-buffer.buffer.items s.front.items c.in_ok-front.front.items
    s.meta.value c.in_ok-meta.meta.value s.sections c.in_ok-sections.sections
    (each_same _ _ c.in_ok-buffer.ensures.cases.0) c.in_ok-front.ensures.cases
    c.in_ok-meta.ensures.cases c.in_ok-sections.ensures
    ∙ c.self.view_is
