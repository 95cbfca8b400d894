use Rattle.std.proofs.Common.{rules, ◌≡◌, ◌<◌, Some, None, refl, ap, sym, subst, inl, ◌∙◌, length}
use Rattle.gitconf_text.specs.Sections.{place_of}
use Rattle.gitconf_sections.proofs.SectionLemmas.{number_at-place}
use Rattle.gitconf_body.proofs.Buffers.{same_extended}
use Rattle.gitconf_sections.proofs.SectionLemmas.{section_edited}
use Rattle.gitconf_sections.specs.Section.{Section, with_items}
use Rattle.gitconf_sections.proofs.Edits.{there_is}
use Rattle.gitconf_sections.specs.LeavingOut.{without_all}
use Rattle.gitconf_views.specs.Store.{state_of, StoreFits}
use Rattle.gitconf_store.proofs.Edits.Editing.{items_within_at, missing_stays, numbered_kept, numbered_view}
use Rattle.gitconf_store.proofs.Edits.LeavingOut.{left_shown, left_within, run_deleted, run_keeps}
use Rattle.gitconf_store.proofs.Edits.Setting.{HasOthers}
use Rattle.gitconf_store.proofs.store.Store.delete_run.Goals as goal

pub returns-in_default : goal.returns-in_default
returns-in_default c =
    let none : place_of c.args.id c.self.inside.sections ≡ None = search rules in
    rw (← c.self.view_is) (sym (run_deleted c.args.id c.args.places.now (state_of c.self.inside.buffer.items c.self.inside.front.items c.self.inside.meta.value c.self.inside.sections) c.requires.are_in
    ∙ missing_stays c.self.inside.buffer.items c.self.inside.front.items c.self.inside.meta.value c.self.inside.sections c.args.id (without_all c.args.places.now) none))

pub returns : goal.returns
returns c =
    let b = c.self.inside.buffer.items in
    let within : c.in-Some.at < length c.self.inside.sections.entries = search rules in
    let found = there_is c.self.inside.sections c.in-Some.at within in
    let s = found.0 in
    let here = found.1 in
    let f : Section → Section = λ s. with_items (without_all c.args.places.now s.items.items) s in
    let t : Section = f s in
    let back = c.leave_out.ensures ∙ sym (section_edited f c.self.inside.sections c.in-Some.at s t here refl) in
    let place : place_of c.args.id c.self.inside.sections ≡ Some c.in-Some.at = search rules in
    let number = number_at-place c.args.id c.self.inside.sections c.in-Some.at place in
    let stays = (left_within c.args.places.now s.items.items (length b) (items_within_at b c.self.inside.copies.items s c.self.inside.sections.entries c.in-Some.at c.self.invariant.sections_within here)) in
    let set = left_shown b c.args.places.now s.items.items in
    let others : HasOthers (length b) s t = record { header = refl; meta = refl; held = refl; within = stays } in
    rw (← c.self.view_is) (ap (state_of b c.self.inside.front.items c.self.inside.meta.value) back ∙ numbered_view b b c.self.inside.copies.items c.self.inside.front.items c.self.inside.meta.value c.self.inside.sections c.args.id c.in-Some.at s t (without_all c.args.places.now)
    (same_extended b b refl) others c.self.invariant.front_within c.self.invariant.sections_within c.position.ensures.numbered.once here number set
    ∙ sym (run_deleted c.args.id c.args.places.now (state_of b c.self.inside.front.items c.self.inside.meta.value c.self.inside.sections) c.requires.are_in))

pub invariant_of-self : goal.invariant_of-self
invariant_of-self c =
    let b = c.self.inside.buffer.items in
    let within : c.in-Some.at < length c.self.inside.sections.entries = search rules in
    let found = there_is c.self.inside.sections c.in-Some.at within in
    let s = found.0 in
    let here = found.1 in
    let f : Section → Section = λ s. with_items (without_all c.args.places.now s.items.items) s in
    let t : Section = f s in
    let back = c.leave_out.ensures ∙ sym (section_edited f c.self.inside.sections c.in-Some.at s t here refl) in
    let place : place_of c.args.id c.self.inside.sections ≡ Some c.in-Some.at = search rules in
    let number = number_at-place c.args.id c.self.inside.sections c.in-Some.at place in
    let stays = (left_within c.args.places.now s.items.items (length b) (items_within_at b c.self.inside.copies.items s c.self.inside.sections.entries c.in-Some.at c.self.invariant.sections_within here)) in
    let set = left_shown b c.args.places.now s.items.items in
    let others : HasOthers (length b) s t = record { header = refl; meta = refl; held = refl; within = stays } in
    subst (StoreFits b c.self.inside.copies.items c.self.inside.front.items c.self.inside.meta.value) (sym back) (numbered_kept b b c.self.inside.copies.items c.self.inside.front.items c.self.inside.meta.value c.self.inside.sections c.args.id c.in-Some.at s t (without_all c.args.places.now)
    (same_extended b b refl) c.self.invariant.room others c.self.invariant c.position.ensures.numbered.once here number
    (run_keeps c.args.id c.args.places.now (state_of b c.self.inside.front.items c.self.inside.meta.value c.self.inside.sections) c.requires.are_in c.self.invariant.items)
    (inl set))
