use Rattle.std.proofs.Common.{◌≡◌, ℕ, List, Option, Some, Ok, Err, inr, subst, ap, refl, ◌∙◌}
use denote.Param.Object.{read_made}
use Rattle.gitconf_includes.specs.Errors.{says}
use Rattle.gitconf_includes.specs.Expansion.{Resolves}
use Rattle.gitconf_includes.specs.Rules.{rules_of_includes}
use Rattle.gitconf_sources.specs.Reports.{FileReport}
use Rattle.gitconf_state.specs.State.{State}
use Rattle.gix_config_c.specs.Told.{told_at}
use Rattle.gix_config_c.proofs.FaultLemmas.{right_of}
use Rattle.gix_config_c.proofs.loading.resolved.OwnLists.{at-1-1, own-1}
use Rattle.gix_config_c.proofs.loading.resolved.Goals as goal

pub returns-in-Ok-clause-made : goal.returns-in-Ok-clause-made
returns-in-Ok-clause-made c =
    let boxed : ◌≡◌ {A = Option (List ℕ → FileReport)} (right_of c.in-Ok.ensures.table) (Some (told_at c.in_ok-boxed.field-0.value)) = read_made own-1 (own-1.entry at-1-1) at-1-1 refl (Option (List ℕ → FileReport)) (λ j w. j.1.table w) _ _ _ c.into_dyn_box.ensures.1 in
    let table_is = boxed ∙ ap (λ v. Some (told_at v)) (c.in_ok-boxed.ensures ∙ c.in_ok-try_clone.ensures) in
    subst (λ (f : State). Resolves says (record { rules = record (rules_of_includes c.args.includes) { lossy = c.args.lossy }; table = Some (told_at c.args.told.now) }) f (Ok tt) c.resolve_includes.new.self)
    c.in_ok-made.ensures
    (subst (λ (t : Option (List ℕ → FileReport)). Resolves says (record { rules = record (rules_of_includes c.args.includes) { lossy = c.args.lossy }; table = t }) c.in_ok-made.made (Ok tt) c.resolve_includes.new.self)
    table_is c.in-Ok.ensures.expanded)

pub returns-in-Err-clause-refused : goal.returns-in-Err-clause-refused
returns-in-Err-clause-refused c =
    let boxed : ◌≡◌ {A = Option (List ℕ → FileReport)} (right_of c.in-Err.ensures.table) (Some (told_at c.in_ok-boxed.field-0.value)) = read_made own-1 (own-1.entry at-1-1) at-1-1 refl (Option (List ℕ → FileReport)) (λ j w. j.1.table w) _ _ _ c.into_dyn_box.ensures.1 in
    let table_is = boxed ∙ ap (λ v. Some (told_at v)) (c.in_ok-boxed.ensures ∙ c.in_ok-try_clone.ensures) in
    inr (
      c.resolve_includes.new.self,
      subst (λ (f : State). Resolves says (record { rules = record (rules_of_includes c.args.includes) { lossy = c.args.lossy }; table = Some (told_at c.args.told.now) }) f (Err c.in-Err.refusal) c.resolve_includes.new.self)
          c.in_ok-made.ensures
          (subst (λ (t : Option (List ℕ → FileReport)). Resolves says (record { rules = record (rules_of_includes c.args.includes) { lossy = c.args.lossy }; table = t }) c.in_ok-made.made (Err c.in-Err.refusal) c.resolve_includes.new.self)
          table_is c.in-Err.ensures.expanded),
    )
