use Rattle.std.proofs.Common.{sym, ◌∙◌}
use Rattle.gitconf_sections.proofs.SectionLemmas.{absent_section, section_of-place}
use Rattle.gitconf_sections.proofs.sections.SectionList.get.Goals as goal

pub returns-in_err-at-clause-section : goal.returns-in_err-at-clause-section
returns-in_err-at-clause-section c = rw c.from_residual.ensures (sym (absent_section c.args.id c.args.self.now.entries (sym c.in_err-at.ensures.place)))

pub returns-clause-section : goal.returns-clause-section
returns-clause-section c = sym c.at.ensures ∙ sym (section_of-place c.args.id c.args.self.now c.in_ok-at.at (sym c.in_ok-at.ensures.place))
