use Rattle.std.proofs.Common.{◌<◌, length, ap, sym, subst, ◌∙◌}
use Rattle.gitconf_state.specs.Including.{visited}
use Rattle.gitconf_views.specs.Views.{shown}
use Rattle.gitconf_loaders.specs.Gathering.{Gathered}
use Rattle.gitconf_loaders.proofs.Gathered.{rest_then, some_left, visited_fits, visited_state}
use Rattle.gitconf_loaders.proofs.gathering.Gathering.advance.Goals as goal

pub invariant_of-self : goal.invariant_of-self
invariant_of-self c =
    let g = c.self.inside in
    let s = shown c.section_at-section.result in
    let less = some_left g.count g.at g.ahead g.last g.runs.items g.line_end g.told g.store c.self.invariant (subst (λ (all : Gathered). 0 < length all.rest) (sym c.self.view_is) c.requires) in
    visited_fits g.count g.at g.ahead g.last g.runs.items g.line_end g.told g.store c.self.invariant s less c.section_at-section.ensures c.tells_with-self-inside.result c.tells_with-self-inside.ensures

pub returns : goal.returns
returns c =
    let g = c.self.inside in
    let s = shown c.section_at-section.result in
    let less = some_left g.count g.at g.ahead g.last g.runs.items g.line_end g.told g.store c.self.invariant (subst (λ (all : Gathered). 0 < length all.rest) (sym c.self.view_is) c.requires) in (
      s,
      ap (λ (all : Gathered). all.rest) (sym c.self.view_is) ∙ rest_then g.count g.at g.ahead g.last g.runs.items g.line_end g.told g.store c.self.invariant s less c.section_at-section.ensures,
      visited_state g.count g.at g.ahead g.last g.runs.items g.line_end g.told g.store c.self.invariant s less c.section_at-section.ensures ∙ ap (λ (all : Gathered). visited all.done s) c.self.view_is,
    )
