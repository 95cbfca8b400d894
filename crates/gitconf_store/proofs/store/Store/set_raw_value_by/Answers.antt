use Rattle.std.proofs.Common.{rules, true}
use Rattle.std.proofs.lemmas.Fn.{always_returns_same}
use Rattle.gitconf_store.proofs.store.Store.set_raw_value_by.Goals as goal

pub returns-clause-exact : goal.returns-clause-exact
returns-clause-exact c = c.set_raw_value_filter_by.ensures.exact (λ _. true) (always_returns_same _ _ _ (λ a r f' k. search rules))

pub returns-clause-answer : goal.returns-clause-answer
returns-clause-answer c = c.set_raw_value_filter_by.ensures.answer (λ _. true) (always_returns_same _ _ _ (λ a r f' k. search rules))
