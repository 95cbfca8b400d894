use Rattle.std.proofs.Common.{rules, ◌≡◌, Some, None, refl, ap, sym, subst, ◌∙◌}
use Rattle.gitconf_sources.specs.Metadata.{Meta}
use Rattle.gitconf_text.specs.Sections.{place_of}
use Rattle.gitconf_sections.proofs.SectionLemmas.{number_at-place}
use Rattle.gitconf_state.specs.Edits.{with_trust}
use Rattle.gitconf_text.specs.Sections.{with_section}
use Rattle.gitconf_sections.proofs.SectionLemmas.{section_edited}
use Rattle.gitconf_sections.specs.Section.{Section, viewed}
use Rattle.gitconf_views.specs.Store.{state_of, StoreFits}
use Rattle.gitconf_store.proofs.Headers.Renaming.{is_numbered, unnumbered_stays}
use Rattle.gitconf_store.specs.Edited.{has_number}
use Rattle.gitconf_store.proofs.Edits.Numbered.{sections_keep_numbers}
use Rattle.gitconf_store.proofs.Edits.Trusting.{IsTrusted, trusted_fits, trusted_state}
use Rattle.gitconf_store.proofs.store.Store.set_trust.Goals as goal

pub returns-in_default-clause-ok : goal.returns-in_default-clause-ok
returns-in_default-clause-ok c =
    let inside = c.self.inside in
    let none : place_of c.args.id inside.sections ≡ None = search rules in
    unnumbered_stays inside.buffer.items inside.front.items inside.meta.value inside.sections c.args.self.now c.args.id (with_trust c.args.trust) none c.self.view_is

pub returns-in_err-meta-clause-none : goal.returns-in_err-meta-clause-none
returns-in_err-meta-clause-none c = λ none.
    let inside = c.self.inside in
    let place : place_of c.args.id inside.sections ≡ Some c.in-Some.at = search rules in
    absurd (is_numbered inside.buffer.items inside.front.items inside.meta.value inside.sections c.args.self.now c.args.id c.in-Some.at (number_at-place c.args.id inside.sections c.in-Some.at place) c.self.view_is none)

pub invariant_of-self : goal.invariant_of-self
invariant_of-self c =
    let inside = c.self.inside in
    let s : Section = viewed c.at-section.result in
    let t : Section = record s { meta = c.in_ok-meta.meta } in
    let meta : t.meta.value ≡ record s.meta.value { trust = c.args.trust } = c.in_ok-meta.ensures ∙ ap (λ (m : Meta). record m { trust = c.args.trust }) c.deref.ensures in
    let back : c.set_meta.new.self ≡ with_section inside.sections c.in-Some.at t = c.set_meta.ensures ∙ sym (section_edited (λ s. record s { meta = c.in_ok-meta.meta }) inside.sections c.in-Some.at s t c.at-section.ensures refl) in
    let is : IsTrusted c.args.trust s t = record { header = refl; meta = meta; items = refl; held = refl } in
    subst (StoreFits inside.buffer.items inside.copies.items inside.front.items inside.meta.value) (sym back) (trusted_fits inside.buffer.items inside.copies.items inside.front.items inside.meta.value inside.sections c.in-Some.at c.args.trust s t c.self.invariant is c.at-section.ensures)

pub returns-clause-ok : goal.returns-clause-ok
returns-clause-ok c =
    let inside = c.self.inside in
    let place : place_of c.args.id inside.sections ≡ Some c.in-Some.at = search rules in
    let s : Section = viewed c.at-section.result in
    let t : Section = record s { meta = c.in_ok-meta.meta } in
    let meta : t.meta.value ≡ record s.meta.value { trust = c.args.trust } = c.in_ok-meta.ensures ∙ ap (λ (m : Meta). record m { trust = c.args.trust }) c.deref.ensures in
    let back : c.set_meta.new.self ≡ with_section inside.sections c.in-Some.at t = c.set_meta.ensures ∙ sym (section_edited (λ s. record s { meta = c.in_ok-meta.meta }) inside.sections c.in-Some.at s t c.at-section.ensures refl) in
    let is : IsTrusted c.args.trust s t = record { header = refl; meta = meta; items = refl; held = refl } in
    rw (← c.self.view_is) (ap (state_of inside.buffer.items inside.front.items inside.meta.value) back ∙ trusted_state inside.buffer.items inside.front.items inside.meta.value inside.sections c.args.id c.in-Some.at c.args.trust s t c.position.ensures.numbered.once is
    c.at-section.ensures (number_at-place c.args.id inside.sections c.in-Some.at place))

pub returns-clause-stands : goal.returns-clause-stands
returns-clause-stands c = λ stands.
    ap (has_number c.args.id) (returns-clause-ok c) ∙ sections_keep_numbers c.args.id c.args.id (with_trust c.args.trust) (λ s. refl) c.args.self.now ∙ stands
