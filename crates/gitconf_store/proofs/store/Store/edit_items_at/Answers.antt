-- The one proof that an edit of a section's items changes these and no others.
use Rattle.std.proofs.Common.{rules, ◌≡◌, ◌<◌, Some, Ok, Err, refl, sym, ap, subst, ◌∙◌, length, arith}
use Rattle.std.proofs.lemmas.List.{length-map}
use Rattle.gitconf_state.specs.State.{State}
use Rattle.gitconf_items.specs.Items.{items_of}
use Rattle.gitconf_sections.specs.Section.{Section, with_items, viewed}
use Rattle.gitconf_sections.proofs.Edits.{is_taken, taken_within}
use Rattle.gitconf_views.specs.Store.{section_state, state_of, StoreFits}
use Rattle.gitconf_body.proofs.Outcomes.{either_way, if_ok, on_err, on_ok}
use Rattle.gitconf_state.specs.Edit.{with_used}
use Rattle.gitconf_store.proofs.Edits.Editing.{as_err, items_within_at, on_both, unchanged_there}
use Rattle.gitconf_store.proofs.Edits.Setting.{asked_at, changed_keeps, changed_view, kept_view, HasOthers}
use Rattle.gitconf_store.proofs.store.Store.edit_items_at.Goals as goal

pub returns-in-Ok-None-clause-ok : goal.returns-in-Ok-None-clause-ok
returns-in-Ok-None-clause-ok g c =
    let b = c.self.inside.buffer.items in
    let same : g.E.ItemsEdit.changed c.args.edit.now (items_of c.deref.result.now c.at-section.result.items.now) ≡ items_of c.deref.result.now c.at-section.result.items.now = search rules in
    let stays = subst (λ x. g.E.ItemsEdit.changed c.args.edit.now (items_of x c.at-section.result.items.now) ≡ items_of x c.at-section.result.items.now) c.deref.ensures.value same in
    rw (← c.self.view_is) (unchanged_there b c.self.inside.copies.items c.self.inside.front.items c.self.inside.meta.value c.self.inside.sections c.args.at (viewed c.at-section.result)
    (g.E.ItemsEdit.changed c.args.edit.now) c.self.invariant c.at-section.ensures stays)

pub returns-in-Ok-None-clause-tells : goal.returns-in-Ok-None-clause-tells
returns-in-Ok-None-clause-tells g c =
    let told : g.E.ItemsEdit.tells c.args.edit.now (items_of c.deref.result.now c.at-section.result.items.now) c.unchanged.result = search rules in
    rw (← c.self.view_is) (asked_at (λ items. g.E.ItemsEdit.tells c.args.edit.now items c.unchanged.result) c.self.inside.buffer.items c.self.inside.front.items c.self.inside.meta.value c.self.inside.sections c.args.at
    (viewed c.at-section.result) c.at-section.ensures (subst (λ x. g.E.ItemsEdit.tells c.args.edit.now (items_of x c.at-section.result.items.now) c.unchanged.result) c.deref.ensures.value told))

pub returns-in-Ok-None-clause-grows : goal.returns-in-Ok-None-clause-grows
returns-in-Ok-None-clause-grows g c =
    let b = c.self.inside.buffer.items in
    let stays : g.E.ItemsEdit.grows c.args.edit.now (items_of c.deref.result.now c.at-section.result.items.now) (Ok c.unchanged.result) (length c.deref.result.now) (length c.deref.result.now) = search rules in
    rw (← c.self.view_is) (asked_at (λ items. g.E.ItemsEdit.grows c.args.edit.now items (Ok c.unchanged.result) (length b) (length b)) b c.self.inside.front.items c.self.inside.meta.value c.self.inside.sections c.args.at
    (viewed c.at-section.result) c.at-section.ensures (subst (λ x. g.E.ItemsEdit.grows c.args.edit.now (items_of x c.at-section.result.items.now) (Ok c.unchanged.result) (length x) (length x)) c.deref.ensures.value stays))

pub returns-in-Err-clause-grows : goal.returns-in-Err-clause-grows
returns-in-Err-clause-grows g c =
    let b = c.self.inside.buffer.items in
    let stays : g.E.ItemsEdit.grows c.args.edit.now (items_of c.deref.result.now c.at-section.result.items.now) (Err c.in-Err.refused) (length c.deref.result.now) (length c.deref.result.now) = search rules in
    rw (← c.self.view_is) (asked_at (λ items. g.E.ItemsEdit.grows c.args.edit.now items (Err c.in-Err.refused) (length b) (length b)) b c.self.inside.front.items c.self.inside.meta.value c.self.inside.sections c.args.at
    (viewed c.at-section.result) c.at-section.ensures (subst (λ x. g.E.ItemsEdit.grows c.args.edit.now (items_of x c.at-section.result.items.now) (Err c.in-Err.refused) (length x) (length x)) c.deref.ensures.value stays))

pub returns-in_err-items-clause-begun : goal.returns-in_err-items-clause-begun
returns-in_err-items-clause-begun g c =
    let begun : g.E.ItemsEdit.begins c.args.edit.now (items_of c.deref.result.now c.at-section.result.items.now) (length c.deref.result.now) = search rules in
    rw (← c.self.view_is) (as_err c.from_residual.result (asked_at (λ items. g.E.ItemsEdit.begins c.args.edit.now items (length c.self.inside.buffer.items)) c.self.inside.buffer.items c.self.inside.front.items c.self.inside.meta.value
    c.self.inside.sections c.args.at (viewed c.at-section.result) c.at-section.ensures
    (subst (λ x. g.E.ItemsEdit.begins c.args.edit.now (items_of x c.at-section.result.items.now) (length x)) c.deref.ensures.value begun)))

pub edit_or_leave-edited-requires-clause-within : goal.edit_or_leave-edited-requires-clause-within
edit_or_leave-edited-requires-clause-within g c =
    let l = is_taken c.self.inside.sections c.take_items.new.self c.args.at c.deref_mut.result.now.items (c.in_ok-items.ensures.items ∙ ap (λ v. Some v.items) (sym c.deref_mut.ensures.value)) c.in_ok-items.ensures.ok in
    items_within_at c.self.inside.buffer.items c.self.inside.copies.items (with_items c.deref_mut.result.now.items l.kept) c.self.inside.sections.entries c.args.at c.self.invariant.sections_within l.here

pub put_items-requires : goal.put_items-requires
put_items-requires g c =
    let asked = subst (λ (st : State). c.args.at < length st.sections) (sym c.self.view_is) c.requires.at in
    let count = length-map c.self.inside.sections.entries (section_state c.self.inside.buffer.items) in
    let within : c.args.at < length c.self.inside.sections.entries = omega (arith, asked, count) in
    taken_within c.self.inside.sections c.take_items.new.self c.args.at c.in_ok-items.ensures.ok within

pub invariant_of-self-2 : goal.invariant_of-self-2
invariant_of-self-2 g c =
    let l = is_taken c.self.inside.sections c.take_items.new.self c.args.at c.deref_mut.result.now.items (c.in_ok-items.ensures.items ∙ ap (λ v. Some v.items) (sym c.deref_mut.ensures.value)) c.in_ok-items.ensures.ok in
    let back = l.back c.put_items.new.self c.edit_or_leave-edited.new.items.items c.put_items.ensures in
    let s = with_items c.deref_mut.result.now.items l.kept in
    let t : Section = with_items c.edit_or_leave-edited.new.items.items l.kept in
    let others : HasOthers (length c.edit_or_leave-edited.new.buffer.items) s t = record { header = refl; meta = refl; held = refl; within = c.edit_or_leave-edited.ensures.within } in
    subst (StoreFits c.edit_or_leave-edited.new.buffer.items c.self.inside.copies.items c.self.inside.front.items c.self.inside.meta.value) (sym back) (changed_keeps c.self.inside.buffer.items c.edit_or_leave-edited.new.buffer.items c.self.inside.copies.items
    c.self.inside.front.items c.self.inside.meta.value c.self.inside.sections c.args.at s t (g.E.ItemsEdit.changed c.args.edit.now)
    c.edit_or_leave-edited.ensures.extended c.edit_or_leave-edited.ensures.room others c.self.invariant l.here c.requires.keeps (either_way c.edit_or_leave-edited.result c.edit_or_leave-edited.ensures.ok c.edit_or_leave-edited.ensures.err))

pub returns-clause-ok : goal.returns-clause-ok
returns-clause-ok g c =
    let l = is_taken c.self.inside.sections c.take_items.new.self c.args.at c.deref_mut.result.now.items (c.in_ok-items.ensures.items ∙ ap (λ v. Some v.items) (sym c.deref_mut.ensures.value)) c.in_ok-items.ensures.ok in
    let whole = ap (state_of c.edit_or_leave-edited.new.buffer.items c.self.inside.front.items c.self.inside.meta.value) (l.back c.put_items.new.self c.edit_or_leave-edited.new.items.items c.put_items.ensures) in
    let s = with_items c.deref_mut.result.now.items l.kept in
    let t : Section = with_items c.edit_or_leave-edited.new.items.items l.kept in
    let others : HasOthers (length c.edit_or_leave-edited.new.buffer.items) s t = record { header = refl; meta = refl; held = refl; within = c.edit_or_leave-edited.ensures.within } in
    rw (← c.self.view_is) (on_ok c.edit_or_leave-edited.result (λ set. whole ∙ changed_view c.self.inside.buffer.items c.edit_or_leave-edited.new.buffer.items c.self.inside.copies.items c.self.inside.front.items c.self.inside.meta.value
    c.self.inside.sections c.args.at s t (g.E.ItemsEdit.changed c.args.edit.now) c.edit_or_leave-edited.ensures.extended others c.self.invariant.front_within c.self.invariant.sections_within l.here set) c.edit_or_leave-edited.ensures.ok)

pub returns-clause-err : goal.returns-clause-err
returns-clause-err g c =
    let l = is_taken c.self.inside.sections c.take_items.new.self c.args.at c.deref_mut.result.now.items (c.in_ok-items.ensures.items ∙ ap (λ v. Some v.items) (sym c.deref_mut.ensures.value)) c.in_ok-items.ensures.ok in
    let whole = ap (state_of c.edit_or_leave-edited.new.buffer.items c.self.inside.front.items c.self.inside.meta.value) (l.back c.put_items.new.self c.edit_or_leave-edited.new.items.items c.put_items.ensures) in
    let s = with_items c.deref_mut.result.now.items l.kept in
    let t : Section = with_items c.edit_or_leave-edited.new.items.items l.kept in
    let others : HasOthers (length c.edit_or_leave-edited.new.buffer.items) s t = record { header = refl; meta = refl; held = refl; within = c.edit_or_leave-edited.ensures.within } in
    let both = on_both _ _ c.edit_or_leave-edited.result c.edit_or_leave-edited.ensures.err c.edit_or_leave-edited.ensures.left in
    rw (← c.self.view_is) (on_err c.edit_or_leave-edited.result (λ kept. whole ∙ kept_view c.self.inside.buffer.items c.edit_or_leave-edited.new.buffer.items c.self.inside.copies.items c.self.inside.front.items c.self.inside.meta.value
    c.self.inside.sections c.args.at s t c.edit_or_leave-edited.ensures.extended others c.self.invariant.front_within c.self.invariant.sections_within l.here kept.0
    ∙ ap (λ b. with_used (length b) (state_of c.self.inside.buffer.items c.self.inside.front.items c.self.inside.meta.value c.self.inside.sections)) kept.1) both)

pub returns-clause-tells : goal.returns-clause-tells
returns-clause-tells g c =
    let l = is_taken c.self.inside.sections c.take_items.new.self c.args.at c.deref_mut.result.now.items (c.in_ok-items.ensures.items ∙ ap (λ v. Some v.items) (sym c.deref_mut.ensures.value)) c.in_ok-items.ensures.ok in
    rw (← c.self.view_is) (if_ok c.edit_or_leave-edited.result (λ a told. asked_at (λ items. g.E.ItemsEdit.tells c.args.edit.now items a) c.self.inside.buffer.items c.self.inside.front.items c.self.inside.meta.value
    c.self.inside.sections c.args.at (with_items c.deref_mut.result.now.items l.kept) l.here told) c.edit_or_leave-edited.ensures.tells)

pub returns-clause-grows : goal.returns-clause-grows
returns-clause-grows g c =
    let l = is_taken c.self.inside.sections c.take_items.new.self c.args.at c.deref_mut.result.now.items (c.in_ok-items.ensures.items ∙ ap (λ v. Some v.items) (sym c.deref_mut.ensures.value)) c.in_ok-items.ensures.ok in
    rw (← c.self.view_is) (asked_at (λ items. g.E.ItemsEdit.grows c.args.edit.now items c.edit_or_leave-edited.result (length c.self.inside.buffer.items) (length c.edit_or_leave-edited.new.buffer.items)) c.self.inside.buffer.items
    c.self.inside.front.items c.self.inside.meta.value c.self.inside.sections c.args.at (with_items c.deref_mut.result.now.items l.kept) l.here c.edit_or_leave-edited.ensures.grows)
