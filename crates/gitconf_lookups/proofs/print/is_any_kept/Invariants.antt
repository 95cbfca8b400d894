use Rattle.std.proofs.Common.{◌≡◌, Bool, true}
use Rattle.std.specs.List.{list_any}
use Rattle.std.specs.Fn.{ComputesKey}
use Rattle.gitconf_state.specs.State.{SectionState}
use Rattle.gitconf_views.specs.Views.{shown, sections_left}
use Rattle.gitconf_lookups.proofs.print.is_any_kept.Given as goal

-- a filter whose result depends only on what it is shown keeps none of the sections before
abbrev pub invariant-loop-section : goal.invariant-loop-section
invariant-loop-section g l = record {
  can_next : (goal.iterator-loop-section g).can_next l.section-iterator;
  is_finite : (goal.iterator-loop-section g).is_finite l.section-iterator;
  callable : goal.F-IsAlwaysCallable g l.filter;
  told : (keeps : SectionState → Bool) → ComputesKey g.F.FnMut (λ r. keeps (shown r)) l.fn.filter
      → ComputesKey g.F.FnMut (λ r. keeps (shown r)) l.filter × (list_any keeps (sections_left l.fn.sections) ≡ list_any keeps (sections_left l.section-iterator));
  some : list_any (λ _. true) (sections_left l.section-iterator) ≡ true → list_any (λ _. true) (sections_left l.fn.sections) ≡ true;
}
