use Rattle.std.proofs.Common.{ℕ, List, subst}
use Rattle.gix_config_c.specs.HostLoads.{IsAskedAbout}
use Rattle.gix_config_c.proofs.env_loads.ask_about_count.Goals as goal

-- the name is that of the variable
pub returns-in-Ok-clause-answer : goal.returns-in-Ok-clause-answer
returns-in-Ok-clause-answer c = subst (λ (name : List ℕ). IsAskedAbout c.args.told.now name c.args.refusal c.ask_about.result c.ask_about.new.asked) c.in-Ok.ensures.ok c.ask_about.ensures.answer
