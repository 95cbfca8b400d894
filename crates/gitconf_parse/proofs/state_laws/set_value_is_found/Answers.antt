use Rattle.std.proofs.Common.{true, refl}
use Rattle.gitconf_state.proofs.Edits.Values as values
use Rattle.gitconf_parse.proofs.state_laws.set_value_is_found.Goals as goal

pub returns-clause-found : goal.returns-clause-found
returns-clause-found c = λ name subsection key value state valid. values.set_value_is_found name subsection key (λ _. true) value state valid refl

pub returns-clause-filtered : goal.returns-clause-filtered
returns-clause-filtered c = values.set_value_is_found
