use Rattle.std.proofs.Common.{sym, ◌∙◌}
use Rattle.gitconf_text.specs.Sections.{has_name}
use Rattle.gitconf_sections.proofs.TableLemmas.{any_shown, none_shown}
use Rattle.gitconf_sections.proofs.sections.SectionList.has_name.Goals as goal

pub returns-in-Some : goal.returns-in-Some
returns-in-Some c = sym (any_shown (λ e. (e.number, e.section)) (has_name c.args.name.now) c.args.self.now.entries _ _ (sym c.with_name.ensures.left ∙ c.in-Some.ensures.steps))

pub returns-in-None : goal.returns-in-None
returns-in-None c = sym (none_shown (λ e. (e.number, e.section)) (has_name c.args.name.now) c.args.self.now.entries (sym c.with_name.ensures.left ∙ c.in-None.ensures.steps.0))
