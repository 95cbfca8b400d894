use Rattle.std.proofs.Common.{rules, refl}
use Rattle.gitconf_items.proofs.Selections.{some_selected}
use Rattle.gitconf_parse.proofs.events.Events.filtered.Goals as goal

pub invariant_of-result : goal.invariant_of-result
invariant_of-result g c = record {
  room = c.into_parts-buffer.ensures.fits.room;
  shown = search rules;
  selected = some_selected _ _ _ c.into_parts-buffer.ensures.fits.selected c.requires.entries (search rules) refl;
}

pub returns-clause-selected : goal.returns-clause-selected
returns-clause-selected g c = λ input s. some_selected input _ _ s c.requires.entries (search rules) (search rules)
