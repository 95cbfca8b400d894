use Rattle.std.proofs.Common.{ap, sym, ◌∙◌}
use Rattle.std.specs.Ordering.{is_eq}
use Rattle.gitconf_diff.specs.PlainSettings.{mention_names}
use Rattle.gitconf_diff.proofs.Orders.{names_tied}
use Rattle.gitconf_diff.proofs.mention.have_same_names.Goals as goal

pub returns : goal.returns
returns c = c.is_eq.ensures ∙ ap is_eq c.names_order.ensures ∙ sym (names_tied (mention_names c.args.one.now) (mention_names c.args.other.now))
