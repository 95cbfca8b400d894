use Rattle.gitconf_includes.proofs.States.{items_stay}
use Rattle.gitconf_includes.proofs.laws.expansions_keep_items.Goals as goal

pub returns : goal.returns
returns c = items_stay
