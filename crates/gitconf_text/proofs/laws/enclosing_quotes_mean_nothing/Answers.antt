use Rattle.gitconf_text.proofs.ValuesPlain.{plain-stripped, stripped_bare}
use Rattle.gitconf_text.proofs.laws.enclosing_quotes_mean_nothing.Goals as goal

pub returns-clause-meaning : goal.returns-clause-meaning
returns-clause-meaning c = plain-stripped

pub returns-clause-bare : goal.returns-clause-bare
returns-clause-bare c = stripped_bare
