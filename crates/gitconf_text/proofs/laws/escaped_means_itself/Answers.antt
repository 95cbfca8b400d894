use Rattle.gitconf_text.proofs.ValuesEscaped.{plain-escaped}
use Rattle.gitconf_text.proofs.laws.escaped_means_itself.Goals as goal

pub returns : goal.returns
returns c = plain-escaped
