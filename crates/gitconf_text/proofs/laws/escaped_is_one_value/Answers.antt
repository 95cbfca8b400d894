use Rattle.gitconf_text.proofs.ValuesEscaped.{written_fits, written_is_value}
use Rattle.gitconf_text.proofs.laws.escaped_is_one_value.Goals as goal

pub returns-clause-fits : goal.returns-clause-fits
returns-clause-fits c = written_fits

pub returns-clause-value : goal.returns-clause-value
returns-clause-value c = written_is_value
