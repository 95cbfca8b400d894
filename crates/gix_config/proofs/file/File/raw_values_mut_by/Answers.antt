use Rattle.std.proofs.Common.{rules, true}
use Rattle.std.proofs.lemmas.Fn.{always_returns_same}
use Rattle.gix_config.proofs.file.File.raw_values_mut_by.Goals as goal

pub returns : goal.returns
returns c = (search rules, (search rules, (search rules, c.raw_values_mut_filter_by.ensures.found.exact (λ _. true) (always_returns_same _ _ _ (λ a r f' k. search rules)))))
