use Rattle.std.proofs.Common.{rules, true}
use Rattle.std.proofs.lemmas.Fn.{always_returns_same}
use Rattle.gix_config.proofs.file.File.rename_section.Goals as goal

pub returns-clause-exact : goal.returns-clause-exact
returns-clause-exact c = c.rename_section_filter.ensures.exact (λ _. true) (always_returns_same _ _ _ (λ a r f' k. search rules))
