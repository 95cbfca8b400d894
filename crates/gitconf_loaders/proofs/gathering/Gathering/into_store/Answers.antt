use Rattle.std.proofs.Common.{◌-◌, length, sym, subst, ◌∙◌}
use Rattle.gitconf_sections.specs.Runs.{woven, AreRuns}
use Rattle.gitconf_state.specs.Including.{whole, with_sections}
use Rattle.gitconf_loaders.specs.Gathering.{Gathered}
use Rattle.gitconf_loaders.proofs.GatheredLists.{runs_later, whole_woven}
use Rattle.gitconf_loaders.proofs.gathering.Gathering.into_store.Goals as goal

pub weave-requires-clause-runs : goal.weave-requires-clause-runs
weave-requires-clause-runs c =
    let g = c.self.inside in
    let fits = c.self.invariant in
    subst (λ runs. AreRuns runs g.count (length g.store.sections - g.count)) (sym c.deref.ensures.value)
    (runs_later g.runs.items g.at g.count (length g.store.sections - g.count) fits.visited fits.are_runs)

pub returns : goal.returns
returns c =
    let g = c.self.inside in
    let fits = c.self.invariant in
    c.weave.ensures
    ∙ (λ i. with_sections (woven (c.deref.ensures.value i) g.count g.store.sections) g.store)
    ∙ (λ i. with_sections (sym (whole_woven g.count g.at g.runs.items g.store.sections fits.visited fits.within fits.are_runs) i) g.store)
    ∙ (λ i. let all : Gathered = c.self.view_is i in whole all.done all.rest)
