use Rattle.std.proofs.Common.{rules, ◌≡◌, Some, None, refl, sym, ap, subst, ◌∙◌, length, true, false, [], inl}
use Rattle.std.specs.Prelude.{IfOk, OnOk}
use Rattle.std.specs.List.{list_all, list_any}
use Rattle.std.specs.Option.{option_map}
use Rattle.gitconf_text.specs.Sections.{place_of}
use Rattle.gitconf_sections.proofs.SectionLemmas.{number_at-place, section_edited}
use Rattle.gitconf_state.specs.Editors.{popped, popped_entry}
use Rattle.gitconf_state.specs.Edits.{apply, items_of_numbered, Entry, Pop}
use Rattle.gitconf_state.specs.State.{is_item}
use Rattle.gitconf_state.proofs.Edits.EditorItems.{popped_all}
use Rattle.gitconf_state.proofs.Edits.Keep.{apply_items}
use Rattle.gitconf_body.specs.Places.{IsLastAt}
use Rattle.gitconf_body.specs.Spacings.{is_stored_entry}
use Rattle.gitconf_body.proofs.Taken.{popped_none, popped_entry_none, some_popped}
use Rattle.gitconf_body.proofs.Buffers.{same_extended}
use Rattle.gitconf_sections.specs.Section.{Section, with_items, viewed}
use Rattle.gitconf_views.specs.Store.{state_of, StoreFits}
use Rattle.gitconf_store.proofs.Edits.Editing.{missing_stays, missing_told, numbered_items_at, numbered_kept, numbered_told, numbered_view, entry_inside}
use Rattle.gitconf_views.proofs.PoppedKeys.{items_at, key_named}
use Rattle.gitconf_store.specs.Edited.{has_number}
use Rattle.gitconf_store.proofs.Edits.Numbered.{either_stands, items_keep_numbers}
use Rattle.gitconf_store.proofs.Edits.Setting.{HasOthers}
use Rattle.gitconf_store.proofs.store.Store.pop_entry.Goals as goal

pub returns-in_default-clause-ok : goal.returns-in_default-clause-ok
returns-in_default-clause-ok c =
    let none : place_of c.args.id c.self.inside.sections ≡ None = search rules in
    rw (← c.self.view_is) (sym (missing_stays c.self.inside.buffer.items c.self.inside.front.items c.self.inside.meta.value c.self.inside.sections c.args.id popped none))

pub returns-in_default-clause-answer : goal.returns-in_default-clause-answer
returns-in_default-clause-answer c =
    let none : place_of c.args.id c.self.inside.sections ≡ None = search rules in
    rw (← c.self.view_is) (ap Entry (sym (missing_told c.self.inside.buffer.items c.self.inside.front.items c.self.inside.meta.value c.self.inside.sections c.args.id popped_entry none)))

pub returns-in_default-last_entry-clause-ok : goal.returns-in_default-last_entry-clause-ok
returns-in_default-last_entry-clause-ok c =
    let b = c.self.inside.buffer.items in
    let s = viewed c.at-section.result in
    let place : place_of c.args.id c.self.inside.sections ≡ Some c.in-Some.at = search rules in
    let number = number_at-place c.args.id c.self.inside.sections c.in-Some.at place in
    let t : Section = with_items [] s in
    let none : list_any is_stored_entry c.at-section.result.items.now ≡ false = search rules in
    let emptied = popped_none b c.at-section.result.items.now none in
    let others : HasOthers (length b) s t = record { header = refl; meta = refl; held = refl; within = tt } in
    let back = c.clear.ensures ∙ sym (section_edited (with_items []) c.self.inside.sections c.in-Some.at s t c.at-section.ensures refl) in
    rw (← c.self.view_is) (ap (state_of b c.self.inside.front.items c.self.inside.meta.value) back
    ∙ numbered_view b b c.self.inside.copies.items c.self.inside.front.items c.self.inside.meta.value c.self.inside.sections c.args.id c.in-Some.at s t popped
    (same_extended b b refl) others c.self.invariant.front_within c.self.invariant.sections_within c.position.ensures.numbered.once c.at-section.ensures number (sym emptied))

pub returns-in_default-last_entry-clause-answer : goal.returns-in_default-last_entry-clause-answer
returns-in_default-last_entry-clause-answer c =
    let b = c.self.inside.buffer.items in
    let s = viewed c.at-section.result in
    let place : place_of c.args.id c.self.inside.sections ≡ Some c.in-Some.at = search rules in
    let number = number_at-place c.args.id c.self.inside.sections c.in-Some.at place in
    let none : list_any is_stored_entry c.at-section.result.items.now ≡ false = search rules in
    let told = numbered_told b c.self.inside.front.items c.self.inside.meta.value c.self.inside.sections c.args.id c.in-Some.at s popped_entry c.position.ensures.numbered.once c.at-section.ensures number in
    rw (← c.self.view_is) (ap Entry (sym (told ∙ popped_entry_none b c.at-section.result.items.now none)))

pub invariant_of-self : goal.invariant_of-self
invariant_of-self c =
    let b = c.self.inside.buffer.items in
    let s = viewed c.at-section.result in
    let place : place_of c.args.id c.self.inside.sections ≡ Some c.in-Some.at = search rules in
    let number = number_at-place c.args.id c.self.inside.sections c.in-Some.at place in
    let t : Section = with_items [] s in
    let none : list_any is_stored_entry c.at-section.result.items.now ≡ false = search rules in
    let emptied = popped_none b c.at-section.result.items.now none in
    let others : HasOthers (length b) s t = record { header = refl; meta = refl; held = refl; within = tt } in
    let back = c.clear.ensures ∙ sym (section_edited (with_items []) c.self.inside.sections c.in-Some.at s t c.at-section.ensures refl) in
    subst (StoreFits b c.self.inside.copies.items c.self.inside.front.items c.self.inside.meta.value) (sym back)
    (numbered_kept b b c.self.inside.copies.items c.self.inside.front.items c.self.inside.meta.value c.self.inside.sections c.args.id c.in-Some.at s t popped
    (same_extended b b refl) c.self.invariant.room others c.self.invariant c.position.ensures.numbered.once c.at-section.ensures number
    (apply_items (Pop c.args.id) (state_of b c.self.inside.front.items c.self.inside.meta.value c.self.inside.sections) tt c.self.invariant.items)
    (inl (sym emptied)))

pub returns-in_err-edit_items-clause-none : goal.returns-in_err-edit_items-clause-none
returns-in_err-edit_items-clause-none c =
    let b = c.self.inside.buffer.items in
    let s = viewed c.at-section.result in
    let place : place_of c.args.id c.self.inside.sections ≡ Some c.in-Some.at = search rules in
    let number = number_at-place c.args.id c.self.inside.sections c.in-Some.at place in
    let told = numbered_told b c.self.inside.front.items c.self.inside.meta.value c.self.inside.sections c.args.id c.in-Some.at s popped_entry c.position.ensures.numbered.once c.at-section.ensures number in
    let found : IsLastAt is_stored_entry c.at-section.result.items.now c.in-Some-last_entry.field-0 = search rules in
    rw (← c.self.view_is) (λ none. absurd (some_popped b s.items.items c.in-Some-last_entry.field-0 found (sym told ∙ entry_inside none)))

pub edit_items-requires-clause-keeps : goal.edit_items-requires-clause-keeps
edit_items-requires-clause-keeps c = λ items all. popped_all is_item items all

pub returns-clause-name : goal.returns-clause-name
returns-clause-name c =
    let told = subst (λ r. IfOk r (λ edited. IfOk edited (λ a. option_map (λ t. (t.0.items, t.1.items)) a ≡ popped_entry (items_of_numbered c.args.id c.args.self.now)))) c.in_ok-edit_items.was c.edit_items.ensures.tells in
    let s = viewed c.at-section.result in
    let place : place_of c.args.id c.self.inside.sections ≡ Some c.in-Some.at = search rules in
    let number = number_at-place c.args.id c.self.inside.sections c.in-Some.at place in
    let all = subst (λ xs. list_all is_item xs ≡ true) (sym (numbered_items_at c.self.inside.buffer.items c.self.inside.front.items c.self.inside.meta.value c.self.inside.sections c.args.id c.in-Some.at s
    c.position.ensures.numbered.once c.at-section.ensures number)) (items_at c.self.inside.buffer.items s c.self.inside.sections.entries c.in-Some.at c.self.invariant.items.sections c.at-section.ensures) in
    key_named (items_of_numbered c.args.id c.args.self.now) c.in_ok-edit_items.field-0 (subst (λ state. list_all is_item (items_of_numbered c.args.id state) ≡ true) c.self.view_is all) told

pub returns-in_default-last_entry-clause-stands : goal.returns-in_default-last_entry-clause-stands
returns-in_default-last_entry-clause-stands c = λ stands.
    ap (has_number c.args.id) (returns-in_default-last_entry-clause-ok c) ∙ items_keep_numbers c.args.id c.args.id popped c.args.self.now ∙ stands

pub returns-clause-stands : goal.returns-clause-stands
returns-clause-stands c =
    let ok : OnOk c.in_ok-edit_items.field-0 (c.edit_items.new.self ≡ apply (Pop c.args.id) c.args.self.now) = search rules in
    either_stands c.in_ok-edit_items.field-0 c.args.self.now c.edit_items.new.self (apply (Pop c.args.id) c.args.self.now) c.args.id
    (items_keep_numbers c.args.id c.args.id (popped) c.args.self.now) ok c.in_ok-edit_items.ensures.err
