use Rattle.std.proofs.Common.{rules, ◌≡◌, sym, subst, ◌∙◌}
use Rattle.std.specs.Prelude.{IsNone}
use Rattle.std.specs.List.{list_any}
use Rattle.gitconf_lookups.specs.Walks.{by_name_left}
use Rattle.gitconf_state.specs.Including.{whole}
use Rattle.gitconf_includes.specs.Inclusion.{has_url}
use Rattle.gitconf_loaders.specs.Urls.{has_url_in}
use Rattle.gitconf_loaders.proofs.UrlLemmas.{any_remote}
use Rattle.gitconf_loaders.proofs.expansion.ExpansionConfigFile.has_url.Goals as goal

pub returns-in_default : goal.returns-in_default
returns-in_default c =
    let file = whole c.args.self.now.gathering.done c.args.self.now.gathering.rest in
    let none : IsNone c.sections_by_name.result = search rules in
    sym (c.sections_by_name.ensures.none none (has_url_in c.args.pattern.now)) ∙ any_remote c.args.pattern.now file

pub loop-section-init : goal.loop-section-init
loop-section-init c =
    let file = whole c.args.self.now.gathering.done c.args.self.now.gathering.rest in
    record {
      can_next = tt;
      is_finite = tt;
      found = subst (λ it. list_any (has_url_in c.args.pattern.now) (by_name_left it) ≡ has_url file c.args.pattern.now) (sym c.into_iter-section-iterator.ensures.into_iter_gives)
          (c.in-Some.ensures.some (has_url_in c.args.pattern.now) ∙ any_remote c.args.pattern.now file);
    }
