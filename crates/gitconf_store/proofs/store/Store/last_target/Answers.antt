use Rattle.std.proofs.Common.{◌≡◌, List, ap, map, filter, sym, subst, ◌∙◌}
use Rattle.std.specs.List.{last_or}
use Rattle.std.specs.Option.{option_copied}
use Rattle.std.specs.Prelude.{None}
use Rattle.gitconf_state.specs.Lookup.{is_named, listing}
use Rattle.gitconf_state.specs.State.{SectionState, State}
use Rattle.gitconf_lookups.specs.SomeSections.{AreSome}
use Rattle.gitconf_views.specs.Store.{section_state}
use Rattle.gitconf_views.specs.Views.{shown}
use Rattle.gitconf_lookups.specs.Walks.{named_left, passing}
use Rattle.gitconf_store.proofs.Places.Targets.{target_missing, target_named, target_placed}
use Rattle.gitconf_store.proofs.store.Store.last_target.Goals as goal

pub returns-in_default-clause-exact : goal.returns-in_default-clause-exact
returns-in_default-clause-exact g c = λ keeps h.
    target_missing c.args.section_name.now (option_copied c.args.subsection_name) keeps c.args.self.now.sections
    (c.in_default.ensures.exact keeps h ∙ ap (λ (found : List SectionState). last_or None (passing keeps found)) c.sections_named-sections.ensures)

pub returns-clause-named : goal.returns-clause-named
returns-clause-named g c =
    let name = c.args.section_name.now in
    let subsection = option_copied c.args.subsection_name in
    let entries = c.self.inside.sections.entries in
    let b = c.self.inside.buffer.items in
    let some = c.in-Some.ensures.some in
    let left : named_left c.sections_named-sections.result ≡ filter (λ (s : SectionState). is_named name subsection (listing s)) (map (section_state b) entries) =
    c.sections_named-sections.ensures ∙ ap (λ (s : State). filter (λ (s : SectionState). is_named name subsection (listing s)) s.sections) (sym c.self.view_is) in
    let are = subst (λ (all : List SectionState). AreSome all some.0) left some.1 in
    rw (← c.self.view_is)
    (target_named b name subsection c.self.inside.sections.next entries (shown c.in-Some.section) some.0 c.position.result c.position.ensures.numbered.once are some.2 c.position.ensures.place)

pub returns-clause-exact : goal.returns-clause-exact
returns-clause-exact g c = λ keeps h.
    let name = c.args.section_name.now in
    let subsection = option_copied c.args.subsection_name in
    let entries = c.self.inside.sections.entries in
    let b = c.self.inside.buffer.items in
    let left : named_left c.sections_named-sections.result ≡ filter (λ (s : SectionState). is_named name subsection (listing s)) (map (section_state b) entries) =
    c.sections_named-sections.ensures ∙ ap (λ (s : State). filter (λ (s : SectionState). is_named name subsection (listing s)) s.sections) (sym c.self.view_is) in
    rw (← c.self.view_is)
    (target_placed name subsection keeps b c.self.inside.sections.next entries (shown c.in-Some.section) c.position.result c.position.ensures.numbered.once
    (c.in-Some.ensures.exact keeps h ∙ ap (λ (found : List SectionState). last_or None (passing keeps found)) left) c.position.ensures.place)
