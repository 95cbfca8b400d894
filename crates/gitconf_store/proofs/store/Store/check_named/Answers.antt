use Rattle.std.proofs.Common.{rules, ◌≡◌, true, false, sym, ◌∙◌}
use Rattle.std.specs.List.{list_any}
use Rattle.std.specs.Option.{option_copied}
use Rattle.gitconf_text.specs.Sections.{has_name}
use Rattle.gitconf_state.specs.Lookup as state
use Rattle.gitconf_state.specs.State.{SectionState}
use Rattle.gitconf_views.specs.Views.{shown}
use Rattle.gitconf_lookups.specs.Walks.{named_left}
use Rattle.gitconf_lookups.proofs.SectionsKept.{any_kept, any_listed, any_of_none, any_of_some, name_so, section_missing, subsection_missing}
use Rattle.gitconf_store.proofs.store.Store.check_named.Goals as goal

pub returns-in-Some : goal.returns-in-Some
returns-in-Some c =
    let name = c.args.name.now in
    let subsection = option_copied c.args.subsection_name in
    let sections = c.args.self.now.sections in
    any_listed (state.is_named name subsection) sections
    ∙ any_of_some (λ (s : SectionState). state.is_named name subsection (state.listing s)) sections (named_left c.next.new.self) (shown c.in-Some.field-0)
    (sym c.sections_named.ensures ∙ c.in-Some.ensures.steps)

pub returns-then-has_name : goal.returns-then-has_name
returns-then-has_name c =
    let inside = c.self.inside in
    let name = c.args.name.now in
    let subsection = option_copied c.args.subsection_name in
    let sections = c.args.self.now.sections in
    let found : list_any (has_name name) inside.sections.entries ≡ true = search rules in
    let so = any_kept inside.buffer.items inside.copies.items (has_name name) (λ (s : SectionState). state.has_name name (state.listing s)) (name_so inside.buffer.items inside.copies.items name)
    inside.front.items inside.meta.value inside.sections c.args.self.now c.self.invariant.sections_within c.self.view_is in
    let none = any_listed (state.is_named name subsection) sections
    ∙ any_of_none (λ (s : SectionState). state.is_named name subsection (state.listing s)) sections (sym c.sections_named.ensures ∙ c.in-None.ensures.steps.0) in
    (none, subsection_missing name subsection (state.listed c.args.self.now) (any_listed (state.has_name name) sections ∙ sym so ∙ found) none)

pub returns-else-has_name : goal.returns-else-has_name
returns-else-has_name c =
    let inside = c.self.inside in
    let name = c.args.name.now in
    let subsection = option_copied c.args.subsection_name in
    let sections = c.args.self.now.sections in
    let found : list_any (has_name name) inside.sections.entries ≡ false = search rules in
    let so = any_kept inside.buffer.items inside.copies.items (has_name name) (λ (s : SectionState). state.has_name name (state.listing s)) (name_so inside.buffer.items inside.copies.items name)
    inside.front.items inside.meta.value inside.sections c.args.self.now c.self.invariant.sections_within c.self.view_is in
    let none = any_listed (state.is_named name subsection) sections
    ∙ any_of_none (λ (s : SectionState). state.is_named name subsection (state.listing s)) sections (sym c.sections_named.ensures ∙ c.in-None.ensures.steps.0) in
    (none, section_missing name subsection (state.listed c.args.self.now) (any_listed (state.has_name name) sections ∙ sym so ∙ found))
