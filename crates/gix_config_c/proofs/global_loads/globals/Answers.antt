use Rattle.std.proofs.Common.{◌≡◌, ℕ, List, Option, Some, subst, ap, refl, ◌∙◌}
use denote.Param.Object.{read_made}
use Rattle.gitconf_loaders.specs.Errors.{paths_says}
use Rattle.gitconf_loaders.specs.Paths.{telling}
use Rattle.gitconf_loaders.specs.Globals.{IsGlobal}
use Rattle.gitconf_sources.specs.InMemory.{variable_at}
use Rattle.gitconf_sources.specs.Reports.{FileReport, VariableReport}
use Rattle.gix_config_c.specs.HostLoads.{variables_told}
use Rattle.gix_config_c.specs.Told.{told_at}
use Rattle.gix_config_c.proofs.FaultLemmas.{right_of}
use Rattle.gix_config_c.proofs.global_loads.globals.OwnLists.{at-1-1, at-2-1, own-1, own-2}
use Rattle.gix_config_c.proofs.global_loads.globals.Goals as goal

-- what the host reports is what was told
pub returns : goal.returns
returns c =
    let files : ◌≡◌ {A = Option (List ℕ → FileReport)} (right_of c.from_globals.ensures.table) (Some (told_at c.in_ok-files.files.value)) = read_made own-1 (own-1.entry at-1-1) at-1-1 refl (Option (List ℕ → FileReport)) (λ j w. j.1.table w) _ _ _ c.into_dyn_box.ensures.1 in
    let table_is = files ∙ ap (λ v. Some (told_at v)) (c.in_ok-files.ensures ∙ c.in_ok-known.ensures) in
    let env : ◌≡◌ {A = Option (List ℕ → VariableReport)} (right_of c.from_globals.ensures.env) (Some (variable_at c.in_ok-env.env.value)) = read_made own-2 (own-2.entry at-2-1) at-2-1 refl (Option (List ℕ → VariableReport)) (λ j w. j.1.variables w) _ _ _ c.into_dyn_box-2.ensures.1 in
    let variables_is = env ∙ ap (λ v. Some (variable_at v)) (c.in_ok-env.ensures ∙ c.in_ok-set.ensures) in
    subst (λ (t : Option (List ℕ → FileReport)). IsGlobal (variables_told c.args.told.now) c.args.places t (telling paths_says c.from_globals.result)) table_is
    (subst (λ (v : Option (List ℕ → VariableReport)). IsGlobal v c.args.places (right_of c.from_globals.ensures.table) (telling paths_says c.from_globals.result)) variables_is c.from_globals.ensures.loaded)
