use Rattle.gitconf_parse.proofs.Decisions.{file_value, file_values}
use Rattle.gitconf_parse.proofs.lookup_laws.a_file_is_looked_up_by_its_document.Goals as goal

pub returns-clause-value : goal.returns-clause-value
returns-clause-value c = λ state key. file_value key state

pub returns-clause-values : goal.returns-clause-values
returns-clause-values c = λ state key. file_values key state
