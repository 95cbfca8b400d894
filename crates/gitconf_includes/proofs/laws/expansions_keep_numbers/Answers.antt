use Rattle.gitconf_includes.proofs.Numbers.{numbers_stay}
use Rattle.gitconf_includes.proofs.laws.expansions_keep_numbers.Goals as goal

pub returns : goal.returns
returns c = numbers_stay
