use Rattle.std.proofs.Common.{rules, ◌≡◌, ◌<◌, Some, None, Ok, sym, ap, subst, ◌∙◌, length}
use Rattle.std.specs.Prelude.{slice_get}
use Rattle.gitconf_text.specs.Sections.{place_of}
use Rattle.gitconf_sections.proofs.SectionLemmas.{number_at-place}
use Rattle.gitconf_state.specs.Edit.{with_used}
use Rattle.gitconf_state.specs.Edits.{change_items, numbered}
use Rattle.gitconf_state.specs.State.{with_sections, SectionState, State}
use Rattle.gitconf_sections.proofs.Edits.{there_is}
use Rattle.gitconf_body.proofs.Outcomes.{if_ok, on_err, on_ok}
use Rattle.gitconf_store.specs.ItemsEdits.{changed_at_place}
use Rattle.gitconf_store.proofs.Edits.Editing.{changed_there, missing, missing_items, missing_stays, never_missing, none_said, numbered_there, others_untold, said_of_items, said_there, same_there}
use Rattle.gitconf_store.proofs.Edits.ItemsEdits.{changed_same}
use Rattle.gitconf_store.proofs.store.Store.edit_items.Goals as goal

pub returns-in-Some-clause-ok : goal.returns-in-Some-clause-ok
returns-in-Some-clause-ok g c =
    let change = g.E.ItemsEdit.changed c.args.edit.now in
    let place : place_of c.args.id c.self.inside.sections ≡ Some c.in-Some.at = search rules in
    let number = number_at-place c.args.id c.self.inside.sections c.in-Some.at place in
    let there = subst (λ (s : State). changed_at_place c.in-Some.at change s ≡ change_items c.args.id change s) c.self.view_is
    (changed_there c.self.inside.buffer.items c.self.inside.front.items c.self.inside.meta.value c.self.inside.sections c.args.id c.in-Some.at change c.position.ensures.numbered.once number) in
    if_ok c.edit_items_at.result (λ edited ok. on_ok edited (λ is. is ∙ ap (λ s. with_used c.edit_items_at.new.self.used s) there) ok) c.edit_items_at.ensures.ok

pub returns-in-Some-clause-says : goal.returns-in-Some-clause-says
returns-in-Some-clause-says g c = λ change same.
    let place : place_of c.args.id c.self.inside.sections ≡ Some c.in-Some.at = search rules in
    let number = number_at-place c.args.id c.self.inside.sections c.in-Some.at place in
    let there = subst (λ (s : State). changed_at_place c.in-Some.at change s ≡ change_items c.args.id change s) c.self.view_is
    (changed_there c.self.inside.buffer.items c.self.inside.front.items c.self.inside.meta.value c.self.inside.sections c.args.id c.in-Some.at change c.position.ensures.numbered.once number) in
    let at = subst (λ (s : State). numbered c.args.id s ≡ slice_get s.sections c.in-Some.at) c.self.view_is
    (numbered_there c.self.inside.buffer.items c.self.inside.front.items c.self.inside.meta.value c.self.inside.sections c.args.id c.in-Some.at c.position.ensures.numbered.once number) in
    let both = changed_same (g.E.ItemsEdit.changed c.args.edit.now) change c.args.self.now.sections c.in-Some.at
    (same_there (λ items. g.E.ItemsEdit.changed c.args.edit.now items ≡ change items) c.args.id c.in-Some.at c.args.self.now at (sym same)) in
    if_ok c.edit_items_at.result (λ edited ok. on_ok edited (λ is. is ∙ ap (λ ss. with_used c.edit_items_at.new.self.used (with_sections ss c.args.self.now)) both
    ∙ ap (λ s. with_used c.edit_items_at.new.self.used s) there) ok) c.edit_items_at.ensures.ok

pub returns-in-None-clause-says : goal.returns-in-None-clause-says
returns-in-None-clause-says g c = λ change same.
    let none : place_of c.args.id c.self.inside.sections ≡ None = search rules in
    rw (← c.self.view_is) (sym (ap (with_used (length c.self.inside.buffer.items)) (missing_stays c.self.inside.buffer.items c.self.inside.front.items c.self.inside.meta.value c.self.inside.sections c.args.id
    change none)))

pub returns-in-Some-clause-tells : goal.returns-in-Some-clause-tells
returns-in-Some-clause-tells g c =
    let place : place_of c.args.id c.self.inside.sections ≡ Some c.in-Some.at = search rules in
    let number = number_at-place c.args.id c.self.inside.sections c.in-Some.at place in
    let same = subst (λ (s : State). numbered c.args.id s ≡ slice_get s.sections c.in-Some.at) c.self.view_is
    (numbered_there c.self.inside.buffer.items c.self.inside.front.items c.self.inside.meta.value c.self.inside.sections c.args.id c.in-Some.at c.position.ensures.numbered.once number) in
    let within : c.in-Some.at < length c.self.inside.sections.entries = search rules in
    let found = there_is c.self.inside.sections c.in-Some.at within in
    let some = subst (λ (s : State). numbered c.args.id s ≡ None → ⊥) c.self.view_is
    (never_missing c.self.inside.buffer.items c.self.inside.front.items c.self.inside.meta.value c.self.inside.sections c.args.id c.in-Some.at found.0 c.position.ensures.numbered.once found.1 number) in
    if_ok c.edit_items_at.result (λ edited told. if_ok edited (λ a said. said_of_items (λ items. g.E.ItemsEdit.tells c.args.edit.now items a) c.args.id c.args.self.now some
    (said_there (λ items. g.E.ItemsEdit.tells c.args.edit.now items a) c.args.id c.in-Some.at c.args.self.now same said)) told) c.edit_items_at.ensures.tells

pub returns-in-Some-clause-grows : goal.returns-in-Some-clause-grows
returns-in-Some-clause-grows g c =
    let place : place_of c.args.id c.self.inside.sections ≡ Some c.in-Some.at = search rules in
    let number = number_at-place c.args.id c.self.inside.sections c.in-Some.at place in
    let same = subst (λ (s : State). numbered c.args.id s ≡ slice_get s.sections c.in-Some.at) c.self.view_is
    (numbered_there c.self.inside.buffer.items c.self.inside.front.items c.self.inside.meta.value c.self.inside.sections c.args.id c.in-Some.at c.position.ensures.numbered.once number) in
    if_ok c.edit_items_at.result (λ edited said. said_there (λ items. g.E.ItemsEdit.grows c.args.edit.now items edited c.args.self.now.used c.edit_items_at.new.self.used) c.args.id c.in-Some.at c.args.self.now same said)
    c.edit_items_at.ensures.grows

pub returns-in-Some-clause-missing : goal.returns-in-Some-clause-missing
returns-in-Some-clause-missing g c =
    let place : place_of c.args.id c.self.inside.sections ≡ Some c.in-Some.at = search rules in
    let number = number_at-place c.args.id c.self.inside.sections c.in-Some.at place in
    let within : c.in-Some.at < length c.self.inside.sections.entries = search rules in
    let found = there_is c.self.inside.sections c.in-Some.at within in
    let some = subst (λ (s : State). numbered c.args.id s ≡ None → ⊥) c.self.view_is
    (never_missing c.self.inside.buffer.items c.self.inside.front.items c.self.inside.meta.value c.self.inside.sections c.args.id c.in-Some.at found.0 c.position.ensures.numbered.once found.1 number) in
    λ none. absurd (some none)

pub returns-in-Some-clause-found : goal.returns-in-Some-clause-found
returns-in-Some-clause-found g c =
    let place : place_of c.args.id c.self.inside.sections ≡ Some c.in-Some.at = search rules in
    let number = number_at-place c.args.id c.self.inside.sections c.in-Some.at place in
    let within : c.in-Some.at < length c.self.inside.sections.entries = search rules in
    let found = there_is c.self.inside.sections c.in-Some.at within in
    let some = subst (λ (s : State). numbered c.args.id s ≡ None → ⊥) c.self.view_is
    (never_missing c.self.inside.buffer.items c.self.inside.front.items c.self.inside.meta.value c.self.inside.sections c.args.id c.in-Some.at found.0 c.position.ensures.numbered.once found.1 number) in
    λ none. absurd (some none)

pub returns-in-Some-clause-done : goal.returns-in-Some-clause-done
returns-in-Some-clause-done g c =
    let place : place_of c.args.id c.self.inside.sections ≡ Some c.in-Some.at = search rules in
    let number = number_at-place c.args.id c.self.inside.sections c.in-Some.at place in
    let within : c.in-Some.at < length c.self.inside.sections.entries = search rules in
    let found = there_is c.self.inside.sections c.in-Some.at within in
    let some = subst (λ (s : State). numbered c.args.id s ≡ None → ⊥) c.self.view_is
    (never_missing c.self.inside.buffer.items c.self.inside.front.items c.self.inside.meta.value c.self.inside.sections c.args.id c.in-Some.at found.0 c.position.ensures.numbered.once found.1 number) in
    λ none. absurd (some none)

pub returns-in-Some-clause-begun : goal.returns-in-Some-clause-begun
returns-in-Some-clause-begun g c =
    let place : place_of c.args.id c.self.inside.sections ≡ Some c.in-Some.at = search rules in
    let number = number_at-place c.args.id c.self.inside.sections c.in-Some.at place in
    let same = subst (λ (s : State). numbered c.args.id s ≡ slice_get s.sections c.in-Some.at) c.self.view_is
    (numbered_there c.self.inside.buffer.items c.self.inside.front.items c.self.inside.meta.value c.self.inside.sections c.args.id c.in-Some.at c.position.ensures.numbered.once number) in
    on_err c.edit_items_at.result (λ said. said_there (λ items. g.E.ItemsEdit.begins c.args.edit.now items c.args.self.now.used) c.args.id c.in-Some.at c.args.self.now same said) c.edit_items_at.ensures.begun

pub returns-in-None-clause-ok : goal.returns-in-None-clause-ok
returns-in-None-clause-ok g c =
    let none : place_of c.args.id c.self.inside.sections ≡ None = search rules in
    rw (← c.self.view_is) (sym (ap (with_used (length c.self.inside.buffer.items)) (missing_stays c.self.inside.buffer.items c.self.inside.front.items c.self.inside.meta.value c.self.inside.sections c.args.id
    (g.E.ItemsEdit.changed c.args.edit.now) none)))

pub returns-in-None-clause-tells : goal.returns-in-None-clause-tells
returns-in-None-clause-tells g c =
    let none : place_of c.args.id c.self.inside.sections ≡ None = search rules in
    rw (← c.self.view_is) (subst (λ items. g.E.ItemsEdit.tells c.args.edit.now items c.unchanged.result)
    (sym (missing_items c.self.inside.buffer.items c.self.inside.front.items c.self.inside.meta.value c.self.inside.sections c.args.id none)) c.unchanged.ensures)

pub returns-in-None-clause-grows : goal.returns-in-None-clause-grows
returns-in-None-clause-grows g c =
    let none : place_of c.args.id c.self.inside.sections ≡ None = search rules in
    let no = others_untold c.self.inside.buffer.items c.args.id None c.self.inside.sections.entries (missing c.args.id c.self.inside.sections.entries none) in
    rw (← c.self.view_is) (none_said _ (λ (s : SectionState). g.E.ItemsEdit.grows c.args.edit.now s.items (Ok c.unchanged.result) (length c.self.inside.buffer.items) (length c.self.inside.buffer.items)) no)
