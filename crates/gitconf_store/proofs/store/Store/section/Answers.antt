use Rattle.std.proofs.Common.{true, List, None, refl, ap, sym, ◌∙◌}
use Rattle.std.specs.List.{last_or}
use Rattle.std.specs.Option.{option_copied}
use Rattle.gitconf_sources.specs.Metadata.{Meta}
use Rattle.gitconf_state.specs.Lookup as state
use Rattle.gitconf_state.specs.State.{SectionState}
use Rattle.gitconf_views.specs.Views.{shown}
use Rattle.gitconf_lookups.specs.Walks.{named_left, passing}
use Rattle.gitconf_lookups.proofs.SectionsKept.{any_listed, any_of_none, last_kept}
use Rattle.gitconf_store.proofs.store.Store.section.Goals as goal

pub unreachable-requires : goal.unreachable-requires
unreachable-requires c =
    let test = state.is_named c.args.name.now (option_copied c.args.subsection_name) in
    let sections = c.args.self.now.sections in
    let any = c.in_ok-check_named.ensures in
    let none = any_listed test sections ∙ any_of_none (λ (s : SectionState). test (state.listing s)) sections (sym c.sections_named.ensures ∙ c.in-None.ensures.steps.0) in
    let apart = sym any ∙ none in
    cc

pub returns : goal.returns
returns c =
    ap (λ (ss : List SectionState). last_or None (passing (λ (_ : Meta). true) ss)) (sym c.sections_named.ensures)
    ∙ last_kept (λ (_ : Meta). true) (named_left c.sections_named.result) (named_left c.next_back.new.self) (shown c.in-Some.section) c.in-Some.ensures.steps refl
