use Rattle.std.proofs.Common.{rules, ◌≡◌, ℕ, List, Option, Some, sym, subst}
use Rattle.std.specs.Option.{option_copied, option_map, unwrap_or}
use Rattle.gitconf_sources.specs.Metadata.{Meta}
use Rattle.gitconf_includes.specs.Conditions.{holds, Says}
use Rattle.gitconf_includes.specs.Rules.{rules_of, rules_of_includes}
use Rattle.gitconf_state.specs.Including.{whole}
use Rattle.gitconf_state.specs.State.{State}
use Rattle.gitconf_includes.specs.Inclusion.{has_url, is_followed}
use Rattle.gitconf_includes.specs.Visits.{condition_of}
use Rattle.gitconf_includes.proofs.judging.is_followed.Goals as goal

pub returns-in-Some : goal.returns-in-Some
returns-in-Some g c =
    let searched : State = unwrap_or (option_map (λ s. whole (g.S.ConfigFile.done s) (g.S.ConfigFile.rest s)) (option_copied c.args.parent)) (whole (g.S.ConfigFile.done c.args.file.now) (g.S.ConfigFile.rest c.args.file.now)) in
    let is : condition_of c.args.directive.now ≡ Some c.deref-in-Some-2.result.now = search rules in
    let from : c.deref.result.now ≡ c.args.directive.now.meta.value = search rules in
    subst (λ (k : Option (List ℕ)). Says (λ b. b) c.holds.result (is_followed (rules_of c.args.options.now) c.args.directive.now.meta.value searched k)) (sym is)
    (subst (λ (m : Meta). Says (λ b. b) c.holds.result (holds (rules_of_includes c.args.options.now.includes) m (has_url searched) c.deref-in-Some-2.result.now)) from c.holds.ensures)
