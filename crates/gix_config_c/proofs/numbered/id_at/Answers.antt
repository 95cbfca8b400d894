use Rattle.gix_config_c.proofs.PlaceLemmas.{numbered_at}
use Rattle.gix_config_c.proofs.numbered.id_at.Goals as goal

-- no number is given twice
pub returns-in-Some-clause-stands : goal.returns-in-Some-clause-stands
returns-in-Some-clause-stands c = λ s at. numbered_at _ _ _ s c.sections.ensures.state.numbers at
