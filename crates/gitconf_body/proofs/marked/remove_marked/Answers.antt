use Rattle.std.proofs.Common.{sym, subst}
use Rattle.gitconf_items.specs.ItemsFit.{AreItemsWithin}
use Rattle.gitconf_body.proofs.marked.remove_marked.Goals as goal

pub returns-clause-within : goal.returns-clause-within
returns-clause-within c = λ limit fit. subst (AreItemsWithin limit) (sym c.reverse.ensures.items) (c.move_unmarked-gone.ensures.within limit fit)
