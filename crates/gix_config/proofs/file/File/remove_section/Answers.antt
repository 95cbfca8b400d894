use Rattle.std.proofs.Common.{rules, true}
use Rattle.std.proofs.lemmas.Fn.{always_returns_same}
use Rattle.gix_config.proofs.file.File.remove_section.Goals as goal

pub returns-clause-ok : goal.returns-clause-ok
returns-clause-ok c = c.remove_section_filter.ensures.ok (λ _. true) (always_returns_same _ _ _ (λ a r f' k. search rules))

pub returns-clause-taken : goal.returns-clause-taken
returns-clause-taken c = c.remove_section_filter.ensures.filtered.exact (λ _. true) (always_returns_same _ _ _ (λ a r f' k. search rules))
