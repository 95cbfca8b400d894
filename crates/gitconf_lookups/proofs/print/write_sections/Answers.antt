use Rattle.std.proofs.Common.{rules, true, ◌≡◌, [], ◌∷◌, ◌++◌, ap, sym, ◌∙◌}
use Rattle.gitconf_text.specs.LineEnds.{bytes_of_line_end}
use Rattle.gitconf_print.proofs.Left.{left_behind, left_fault, left_last}
use Rattle.gitconf_views.specs.Texts.{sections_text, next_text, line_end_unless}
use Rattle.gitconf_views.specs.Views.{shown, sections_left}
use Rattle.gitconf_views.proofs.Texts.{next_section, last_section}
use Rattle.gitconf_lookups.proofs.SomeTexts.{some_fault, some_last, some_next}
use Rattle.gitconf_lookups.proofs.print.write_sections.Goals as goal

pub returns-in_err-ended-clause-exact : goal.returns-in_err-ended-clause-exact
returns-in_err-ended-clause-exact g c = λ keeps h.
    let le = bytes_of_line_end c.args.line_end in
    let s = shown c.in-Some.section in
    let it = c.loop-section.section-iterator in
    let ended = c.loop-section.ended in
    let is : sections_left it ≡ s ∷ sections_left c.next.new.self = search rules in
    let told = c.loop-section.invariant.told keeps h in
    let next = ap (sections_text keeps le ended) is ∙ next_section keeps le ended s (sections_left c.next.new.self) in
    left_fault c.from_residual.result (sections_text keeps le true (sections_left c.args.sections)) (sections_text keeps le ended (sections_left it))
    (next_text keeps le ended s) _ _ _ _ c.from_residual.ensures.0 told.1 next (c.in_err-ended.ensures.exact keeps told.0).1

pub loop-section-preserved : goal.loop-section-preserved
loop-section-preserved g c = record {
  can_next = search rules;
  is_finite = search rules;
  callable = c.in_ok-ended.ensures.callable;
  told = λ keeps h.
      let le = bytes_of_line_end c.args.line_end in
      let s = shown c.in-Some.section in
      let it = c.loop-section.section-iterator in
      let ended = c.loop-section.ended in
      let is : sections_left it ≡ s ∷ sections_left c.next.new.self = search rules in
      let told = c.loop-section.invariant.told keeps h in
      let written = c.in_ok-ended.ensures.exact keeps told.0 in
      let next = ap (sections_text keeps le ended) is ∙ next_section keeps le ended s (sections_left c.next.new.self)
      ∙ ap (λ e. next_text keeps le ended s ++ sections_text keeps le e (sections_left c.next.new.self)) (sym written.2) in (
        written.0,
        left_behind (sections_text keeps le true (sections_left c.args.sections)) (sections_text keeps le ended (sections_left it)) (next_text keeps le ended s)
            (sections_text keeps le c.in_ok-ended.ended (sections_left c.next.new.self)) _ _ _ told.1 next written.1,
      );
  some =
      let le = bytes_of_line_end c.args.line_end in
      let s = shown c.in-Some.section in
      let it = c.loop-section.section-iterator in
      let is : sections_left it ≡ s ∷ sections_left c.next.new.self = search rules in
      let written = c.in_ok-ended.ensures.some in
      some_next le c.loop-section.ended c.in_ok-ended.ended (sections_left c.args.sections) (sections_left it) s (sections_left c.next.new.self) written.0 _ _ _
      c.loop-section.invariant.some is written.1 written.2;
  quiet = c.in_ok-ended.ensures.counted ∙ c.loop-section.invariant.quiet;
}

pub returns-in_err-ended-clause-some : goal.returns-in_err-ended-clause-some
returns-in_err-ended-clause-some g c =
    let le = bytes_of_line_end c.args.line_end in
    let s = shown c.in-Some.section in
    let it = c.loop-section.section-iterator in
    let is : sections_left it ≡ s ∷ sections_left c.next.new.self = search rules in
    let written = c.in_err-ended.ensures.some in
    some_fault c.from_residual.result le c.loop-section.ended (sections_left c.args.sections) (sections_left it) s (sections_left c.next.new.self) written.0 _ _ _
    c.from_residual.ensures.0 c.loop-section.invariant.some is written.1

pub returns-clause-some : goal.returns-clause-some
returns-clause-some g c =
    let le = bytes_of_line_end c.args.line_end in
    let it = c.loop-section.section-iterator in
    let is : sections_left it ≡ [] = search rules in
    some_last c.write_line_end_unless.result le c.loop-section.ended (sections_left c.args.sections) (sections_left it) _ _ _
    c.loop-section.invariant.some is c.write_line_end_unless.ensures.written

pub returns-clause-exact : goal.returns-clause-exact
returns-clause-exact g c = λ keeps h.
    let le = bytes_of_line_end c.args.line_end in
    let it = c.loop-section.section-iterator in
    let ended = c.loop-section.ended in
    let is : sections_left it ≡ [] = search rules in
    left_last c.write_line_end_unless.result (sections_text keeps le true (sections_left c.args.sections)) (sections_text keeps le ended (sections_left it))
    (line_end_unless ended le) _ _ _ (c.loop-section.invariant.told keeps h).1
    (ap (sections_text keeps le ended) is ∙ last_section keeps le ended) c.write_line_end_unless.ensures.written
