use Rattle.gitconf_parse.proofs.Filtering.{filtered_parsed}
use Rattle.gitconf_items.proofs.Selections.{whole_selected}
use Rattle.gitconf_parse.proofs.events.Events.from_bytes.Goals as goal

pub returns-in_ok-filtered-in-Some-clause-parsed : goal.returns-in_ok-filtered-in-Some-clause-parsed
returns-in_ok-filtered-in-Some-clause-parsed g c =
    λ p tells none. filtered_parsed p _ _ _ c.in_ok-events.ensures.whole (c.in_ok-filtered-in-Some.ensures.filtered p (tells c.in-Some.filter c.in-Some.is))

pub returns-in_ok-filtered-in-Some-clause-selected : goal.returns-in_ok-filtered-in-Some-clause-selected
returns-in_ok-filtered-in-Some-clause-selected g c = c.in_ok-filtered-in-Some.ensures.selected _ (whole_selected _ _ c.in_ok-events.ensures.whole)
