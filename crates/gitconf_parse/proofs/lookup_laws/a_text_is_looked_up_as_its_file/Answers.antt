use Rattle.gitconf_parse.proofs.OneDocument.{text_value, text_values}
use Rattle.gitconf_parse.proofs.lookup_laws.a_text_is_looked_up_as_its_file.Goals as goal

pub returns-clause-value : goal.returns-clause-value
returns-clause-value c = λ text d state key one other. text_value text d state key one other

pub returns-clause-values : goal.returns-clause-values
returns-clause-values c = λ text d state key one other. text_values text d state key one other
