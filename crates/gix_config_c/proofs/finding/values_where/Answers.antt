use Rattle.std.proofs.Common.{rules}
use Rattle.std.proofs.lemmas.Fn.{always_returns_same}
use Rattle.gix_config_c.specs.Origins.{keeps}
use Rattle.gix_config_c.proofs.finding.values_where.Goals as goal

-- the filter answers by what it is shown alone
pub returns : goal.returns
returns c = c.raw_values_filter.ensures.exact (keeps c.args.filter.now) (always_returns_same _ _ _ (λ a r f' k. search rules))
