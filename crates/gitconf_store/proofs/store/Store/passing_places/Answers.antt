use Rattle.std.proofs.Common.{◌&&◌, map, ap, sym, subst, ◌∙◌}
use Rattle.std.specs.Option.{option_copied}
use Rattle.gitconf_text.specs.Sections as table
use Rattle.gitconf_state.specs.Edit.{is_target}
use Rattle.gitconf_state.specs.Lookup.{is_named, listing}
use Rattle.gitconf_state.specs.State.{SectionState, State}
use Rattle.gitconf_store.specs.Renamings.{marked_places, AreMarks}
use Rattle.gitconf_store.proofs.Places.Named.{named_so}
use Rattle.gitconf_store.proofs.Headers.Renaming.{marks_shown, target_so, tests_shown}
use Rattle.gitconf_lookups.proofs.SectionsKept.{any_kept}
use Rattle.gitconf_body.proofs.Outcomes.{if_ok, on_err}
use Rattle.gitconf_store.proofs.store.Store.passing_places.Goals as goal

pub returns-clause-some : goal.returns-clause-some
returns-clause-some g c =
    let inside = c.self.inside in
    let name = c.args.name.now in
    let subsection = option_copied c.args.subsection_name in
    let other : SectionState → _ = λ s. is_named name subsection (listing s) in
    if_ok c.passing_places.result (λ places p. (
      p.0,
      p.1,
      subst (λ (s : State). AreMarks other p.0 s.sections) c.self.view_is
          (marks_shown inside.buffer.items inside.copies.items (table.is_named name subsection) other (named_so inside.buffer.items inside.copies.items name subsection) p.0 inside.sections.entries
          c.self.invariant.sections_within p.2),
    )) c.passing_places.ensures.some

pub returns-clause-exact : goal.returns-clause-exact
returns-clause-exact g c = λ keeps h.
    let inside = c.self.inside in
    let name = c.args.name.now in
    let subsection = option_copied c.args.subsection_name in
    let same = tests_shown inside.buffer.items inside.copies.items (λ e. table.is_named name subsection e && keeps e.section.meta.value) (is_target name subsection keeps)
    (target_so inside.buffer.items inside.copies.items name subsection keeps) inside.sections.entries c.self.invariant.sections_within in
    if_ok c.passing_places.result
    (λ places p. p ∙ ap (marked_places 0) (same ∙ ap (λ (s : State). map (is_target name subsection keeps) s.sections) c.self.view_is)) (c.passing_places.ensures.exact keeps h)

pub returns-clause-refused : goal.returns-clause-refused
returns-clause-refused g c = λ keeps h.
    let inside = c.self.inside in
    let name = c.args.name.now in
    let subsection = option_copied c.args.subsection_name in
    let any = any_kept inside.buffer.items inside.copies.items (λ e. table.is_named name subsection e && keeps e.section.meta.value) (is_target name subsection keeps)
    (target_so inside.buffer.items inside.copies.items name subsection keeps) inside.front.items inside.meta.value inside.sections c.args.self.now c.self.invariant.sections_within c.self.view_is in
    on_err c.passing_places.result (λ p. sym any ∙ p) (c.passing_places.ensures.refused keeps h)
