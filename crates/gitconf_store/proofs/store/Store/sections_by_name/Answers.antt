use Rattle.std.proofs.Common.{rules, ◌≡◌, true, false, refl, sym, ◌∙◌}
use Rattle.std.specs.List.{list_any}
use Rattle.gitconf_sections.specs.Walks.{with_name_left}
use Rattle.gitconf_text.specs.Sections.{has_name}
use Rattle.gitconf_state.specs.Lookup as state
use Rattle.gitconf_state.specs.State.{SectionState}
use Rattle.gitconf_lookups.proofs.SectionsKept.{any_kept, found_kept, name_so, none_kept, some_kept}
use Rattle.gitconf_views.proofs.Viewing.{lent_kept}
use Rattle.gitconf_store.proofs.store.Store.sections_by_name.Goals as goal

pub returns-then-not-has_name-clause-none : goal.returns-then-not-has_name-clause-none
returns-then-not-has_name-clause-none c =
    let inside = c.self.inside in
    let name = c.args.name.now in
    let test = λ (s : SectionState). state.has_name name (state.listing s) in
    let none : list_any (has_name name) inside.sections.entries ≡ false = search rules in
    let so = any_kept inside.buffer.items inside.copies.items (has_name name) test (name_so inside.buffer.items inside.copies.items name)
    inside.front.items inside.meta.value inside.sections c.args.self.now c.self.invariant.sections_within c.self.view_is in
    (λ _. none_kept test c.args.self.now.sections (sym so ∙ none), λ _. refl)

pub returns-clause-none : goal.returns-clause-none
returns-clause-none c =
    let inside = c.self.inside in
    let name = c.args.name.now in
    let test = λ (s : SectionState). state.has_name name (state.listing s) in
    let any : list_any (has_name name) inside.sections.entries ≡ true = search rules in
    let so = any_kept inside.buffer.items inside.copies.items (has_name name) test (name_so inside.buffer.items inside.copies.items name)
    inside.front.items inside.meta.value inside.sections c.args.self.now c.self.invariant.sections_within c.self.view_is in
    (λ h. absurd (cc), λ h. absurd (some_kept test c.args.self.now.sections (sym so ∙ any) h))

pub returns-clause-left : goal.returns-clause-left
returns-clause-left c =
    let inside = c.self.inside in
    let name = c.args.name.now in
    found_kept inside.buffer.items inside.copies.items (has_name name) (λ (s : SectionState). state.has_name name (state.listing s)) (name_so inside.buffer.items inside.copies.items name)
    inside.front.items inside.meta.value inside.sections c.args.self.now c.deref.result.now (with_name_left c.with_name.result)
    c.deref.ensures.value c.self.invariant.sections_within c.with_name.ensures.left c.self.view_is

pub invariant_of-result : goal.invariant_of-result
invariant_of-result c =
    let inside = c.self.inside in
    record {
      viewed = lent_kept inside.buffer.items inside.copies.items c.deref.result.now c.deref-2.result.now inside.front.items inside.meta.value inside.sections (has_name c.args.name.now) (with_name_left c.with_name.result)
          c.deref.ensures.value c.deref-2.ensures.value c.self.invariant c.with_name.ensures.left;
    }
