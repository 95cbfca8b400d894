use Rattle.std.proofs.Common.{◌≡◌, Bool, true}
use Rattle.std.specs.Fn.{ComputesKey}
use Rattle.gitconf_state.specs.State.{SectionState}
use Rattle.gitconf_text.specs.LineEnds.{bytes_of_line_end}
use Rattle.gitconf_print.proofs.Left.{IsLeft}
use Rattle.gitconf_views.specs.Texts.{sections_text}
use Rattle.gitconf_views.specs.Views.{shown, sections_left}
use Rattle.gitconf_lookups.proofs.SomeTexts.{IsSomeLeft}
use Rattle.gitconf_lookups.proofs.print.write_sections.Given as goal

-- the sections before were written, where the filter returns by what it is shown, and no failure was counted
abbrev pub invariant-loop-section : goal.invariant-loop-section
invariant-loop-section g l = record {
  can_next : (goal.iterator-loop-section g).can_next l.section-iterator;
  is_finite : (goal.iterator-loop-section g).is_finite l.section-iterator;
  callable : goal.F-IsAlwaysCallable g l.filter;
  told : (keeps : SectionState → Bool) → ComputesKey g.F.FnMut (λ r. keeps (shown r)) l.fn.filter
      → ComputesKey g.F.FnMut (λ r. keeps (shown r)) l.filter
      × IsLeft (sections_text keeps (bytes_of_line_end l.line_end) true (sections_left l.fn.sections))
      (sections_text keeps (bytes_of_line_end l.line_end) l.ended (sections_left l.section-iterator))
      (g.W.Sink.told l.fn.out) (g.W.Sink.told l.out);
  some : IsSomeLeft (bytes_of_line_end l.line_end) l.ended (sections_left l.fn.sections) (sections_left l.section-iterator) (g.W.Sink.told l.fn.out) (g.W.Sink.told l.out);
  quiet : g.W.Sink.faults l.out ≡ g.W.Sink.faults l.fn.out;
}
