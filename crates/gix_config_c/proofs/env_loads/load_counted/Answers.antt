use Rattle.std.proofs.Common.{◌≡◌, Option, Some, None, Ok, Err, refl, rules, subst}
use Rattle.gitconf_includes.specs.Rules.{rules_of_includes}
use Rattle.gitconf_state.specs.State.{State}
use Rattle.gix_config.specs.Environment.{IsFromEnv}
use Rattle.gix_config_c.specs.HostLoads.{variables_told}
use Rattle.gix_config_c.specs.Loaded.{asks_by}
use Rattle.gix_config_c.proofs.FaultLemmas.{of_rules}
use Rattle.gix_config_c.proofs.HostLemmas.{put_tells}
use Rattle.gix_config_c.proofs.env_loads.load_counted.Goals as goal

-- the file that was made
pub returns-in-Ok-Some-clause-answer : goal.returns-in-Ok-Some-clause-answer
returns-in-Ok-Some-clause-answer c = λ short.
    let made : ◌≡◌ {A = Option State} c.in-Ok-Some.field-0 (Some c.in-Ok-Some.made) = search rules in
    of_rules _ _ _ c.in-Some.ensures (
      Ok (Some c.in-Ok-Some.made),
      subst (λ (o : Option State). IsFromEnv (variables_told c.args.told.now) (asks_by c.args.told.now.files (record (rules_of_includes c.in-Some.options) { lossy = c.args.includes.now.lossy })) (Ok o))
          made c.in-Ok-Some.ensures,
      put_tells _ _ _ c.args.asked.now c.args.asked.now c.put_list.ensures.number c.put_list.ensures.done (refl, refl, refl) short,
    )

-- there are no entries
pub returns-in-Ok-None-clause-answer : goal.returns-in-Ok-None-clause-answer
returns-in-Ok-None-clause-answer c = λ short.
    let none : ◌≡◌ {A = Option State} c.in-Ok-None.field-0 None = search rules in
    of_rules _ _ _ c.in-Some.ensures (
      Ok None,
      subst (λ (o : Option State). IsFromEnv (variables_told c.args.told.now) (asks_by c.args.told.now.files (record (rules_of_includes c.in-Some.options) { lossy = c.args.includes.now.lossy })) (Ok o))
          none c.in-Ok-None.ensures,
      (refl, (refl, refl, refl)),
    )

-- the refusal
pub returns-in-Err-clause-answer : goal.returns-in-Err-clause-answer
returns-in-Err-clause-answer c = λ short. of_rules _ _ _ c.in-Some.ensures (Err c.in-Err.refusal, c.in-Err.ensures, c.refused_env.ensures.answer short)
