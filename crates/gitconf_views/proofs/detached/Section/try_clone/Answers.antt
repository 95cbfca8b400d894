use Rattle.std.proofs.Common.{◌∙◌}
use Rattle.std.specs.List.{each_same}
use Rattle.gitconf_views.proofs.Detaching.{cloned_alone, clone_stands}
use Rattle.gitconf_views.proofs.detached.Section.try_clone.Goals as goal

pub invariant_of-result : goal.invariant_of-result
invariant_of-result c =
    let s = c.self.inside in
    clone_stands s.buffer.items c.in_ok-buffer.buffer.items s.copies.items c.in_ok-copies.copies.items s.section c.in_ok-section.section
    (each_same _ _ c.in_ok-buffer.ensures.cases.0) (each_same _ _ c.in_ok-copies.ensures.cases.0) c.in_ok-section.ensures.cases c.self.invariant

pub returns : goal.returns
returns c =
    let s = c.self.inside in
    cloned_alone s.buffer.items c.in_ok-buffer.buffer.items s.id s.section c.in_ok-section.section (each_same _ _ c.in_ok-buffer.ensures.cases.0) c.in_ok-section.ensures.cases
    ∙ c.self.view_is
