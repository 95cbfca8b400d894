use Rattle.std.proofs.Common.{refl}
use Rattle.gix_config_c.proofs.viewing.put_view.Goals as goal

-- what the view points to is what was laid out
pub returns-clause-answer : goal.returns-clause-answer
returns-clause-answer c = record { done = λ done. (c.in-Ok.arrays, c.put.ensures, c.in-Ok.ensures); short = λ no. absurd (no refl) }
