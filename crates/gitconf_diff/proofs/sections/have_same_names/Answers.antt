use Rattle.std.proofs.Common.{ap, sym, ◌∙◌}
use Rattle.std.specs.Ordering.{is_eq}
use Rattle.gitconf_diff.specs.PlainSections.{heading}
use Rattle.gitconf_diff.proofs.Headings.{heading_tied}
use Rattle.gitconf_diff.proofs.sections.have_same_names.Goals as goal

pub returns : goal.returns
returns c = c.is_eq.ensures ∙ ap is_eq c.order.ensures ∙ sym (heading_tied (heading c.args.one.now) (heading c.args.other.now))
