use Rattle.std.proofs.Common.{◌++◌, ap, sym, ◌∙◌}
use Rattle.std.specs.List.{list_any}
use Rattle.gitconf_lookups.specs.Walks.{with_name}
use Rattle.gitconf_state.specs.Lookup.{has_name, listing}
use Rattle.gitconf_loaders.specs.Gathering.{Gathered}
use Rattle.gitconf_loaders.proofs.Gathered.{if_some}
use Rattle.gitconf_loaders.proofs.GatheredLists.{any_kept}
use Rattle.gitconf_loaders.proofs.gathering.Gathering.sections_by_name.Goals as goal

pub returns-clause-none : goal.returns-clause-none
returns-clause-none c = λ none p.
    let g = c.self.inside in
    let fits = c.self.invariant in
    let name = c.args.name.now in
    (λ i. let all : Gathered = sym c.self.view_is i in list_any p (with_name name (all.done.sections ++ all.rest)))
    ∙ sym (any_kept p (λ s. has_name name (listing s)) g.count g.at g.runs.items g.store.sections fits.visited fits.within fits.are_runs)
    ∙ ap (list_any p) (c.sections_by_name.ensures.none.0 none)

pub returns-clause-some : goal.returns-clause-some
returns-clause-some c =
    let g = c.self.inside in
    let fits = c.self.invariant in
    let name = c.args.name.now in
    if_some c.sections_by_name.result (λ it left p.
    ap (list_any p) left
    ∙ any_kept p (λ s. has_name name (listing s)) g.count g.at g.runs.items g.store.sections fits.visited fits.within fits.are_runs
    ∙ (λ i. let all : Gathered = c.self.view_is i in list_any p (with_name name (all.done.sections ++ all.rest))))
    c.sections_by_name.ensures.left
