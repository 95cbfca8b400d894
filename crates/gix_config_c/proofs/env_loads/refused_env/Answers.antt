use Rattle.std.proofs.Common.{sym, subst}
use Rattle.gitconf_loaders.specs.Errors.{env_number}
use Rattle.gitconf_loaders.specs.declared.from_env.Error.{Error}
use Rattle.gix_config_c.specs.HostLoads.{IsAnsweredFor, env_about}
use Rattle.gix_config_c.proofs.HostLemmas.{answered_about}
use Rattle.gix_config_c.proofs.env_loads.refused_env.Goals as goal

-- the variable that it is about
pub returns-in-IllformedUtf8-clause-answer : goal.returns-in-IllformedUtf8-clause-answer
returns-in-IllformedUtf8-clause-answer c = λ short.
    subst (λ (e : Error). IsAnsweredFor c.args.told.now (env_about e) (env_number e) c.ask_about_part.result c.args.asked.now c.ask_about_part.new.asked)
    (sym c.in-IllformedUtf8.is) (answered_about c.args.told.now _ 22 c.ask_about_part.result c.args.asked.now c.ask_about_part.new.asked c.ask_about_part.ensures.answer short)

pub returns-in-InvalidKeyValue-clause-answer : goal.returns-in-InvalidKeyValue-clause-answer
returns-in-InvalidKeyValue-clause-answer c = λ short.
    subst (λ (e : Error). IsAnsweredFor c.args.told.now (env_about e) (env_number e) c.ask_about_key-in-InvalidKeyValue.result c.args.asked.now c.ask_about_key-in-InvalidKeyValue.new.asked)
    (sym c.in-InvalidKeyValue.is) (answered_about c.args.told.now _ 25 c.ask_about_key-in-InvalidKeyValue.result c.args.asked.now c.ask_about_key-in-InvalidKeyValue.new.asked c.ask_about_key-in-InvalidKeyValue.ensures.answer short)
