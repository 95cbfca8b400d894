use Rattle.gix_config_c.proofs.PlaceLemmas.{at_place}
use Rattle.gix_config_c.proofs.lines.end_at.Goals as goal

-- what the call says of the section of the number, which is that at the place
pub returns-in-Some-clause-answer : goal.returns-in-Some-clause-answer
returns-in-Some-clause-answer c = record { told = at_place _ _ _ _ c.in-Some.ensures.none c.in-Some.ensures.found c.in-Some.ensures.stands (λ s same is. c.end_numbered.ensures.answer s is) }
