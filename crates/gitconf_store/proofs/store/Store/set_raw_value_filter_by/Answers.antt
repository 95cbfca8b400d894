use Rattle.std.proofs.Common.{rules, ◌≡◌, true, false, Option, None, Some, Err, Ok, ap, refl, subst, sym}
use Rattle.bstr.specs.declared.bstring.BString.{BString}
use Rattle.std.specs.List.{list_any}
use Rattle.std.specs.Option.{option_copied, option_map}
use Rattle.bstr.specs.Owned.{bstring_bytes}
use Rattle.gitconf_text.specs.Names.{is_value_name}
use Rattle.gitconf_body.specs.Places.{IsLastAt}
use Rattle.gitconf_state.specs.Edit.{is_target}
use Rattle.gitconf_state.specs.Edits.{Raw, SetRawValue, answer}
use Rattle.gitconf_store.specs.Edited.{IsEdited}
use Rattle.gitconf_store.specs.SetErrors.{of_header, of_span, set_refusal}
use Rattle.gitconf_store.specs.SetSomewhere.{IsSetSomewhere}
use Rattle.gitconf_store.specs.declared.set_raw_value.Error.TheVariants.{ValueName}
use Rattle.gitconf_store.proofs.Edits.Sets.{answer_at, answer_new, found_err, found_ok, found_somewhere, made_err, made_ok, made_somewhere, unmade_somewhere, unnamed_somewhere, unset_somewhere}
use Rattle.gitconf_store.proofs.store.Store.set_raw_value_filter_by.Goals as goal

pub returns-in_err-set_in_new-clause-exact : goal.returns-in_err-set_in_new-clause-exact
returns-in_err-set_in_new-clause-exact g c = λ keeps h.
    let place = c.last_target.ensures.exact keeps h in
    let key = c.as_bytes-key.result.now in
    let keyed : is_value_name key ≡ true = search rules in
    let none : list_any (is_target c.args.section_name.now (option_copied c.args.subsection_name) keeps) c.args.self.now.sections ≡ false = search rules in
    let fault : c.from_residual.result ≡ Err (of_header c.in_err-set_in_new.field-0.0) = search rules in
    subst (λ r. IsEdited {T = Option BString} set_refusal (SetRawValue c.args.section_name.now (option_copied c.args.subsection_name) c.args.value_name.now keeps c.args.new_value.now) r c.args.self.now c.set_in_new.new.self) (sym fault)
    (subst (λ k. IsEdited {T = Option BString} set_refusal (SetRawValue c.args.section_name.now (option_copied c.args.subsection_name) k keeps c.args.new_value.now) (Err (of_header c.in_err-set_in_new.field-0.0)) c.args.self.now c.set_in_new.new.self) c.as_bytes-key.ensures.value
    (made_err c.args.section_name.now (option_copied c.args.subsection_name) key keeps c.args.new_value.now c.args.self.now c.set_in_new.new.self c.in_err-set_in_new.field-0.0 keyed none c.in_err-set_in_new.ensures.err c.in_err-set_in_new.ensures.told))

pub returns-in_default-clause-exact : goal.returns-in_default-clause-exact
returns-in_default-clause-exact g c = λ keeps h.
    let place = c.last_target.ensures.exact keeps h in
    let key = c.as_bytes-key.result.now in
    let keyed : is_value_name key ≡ true = search rules in
    let none : list_any (is_target c.args.section_name.now (option_copied c.args.subsection_name) keeps) c.args.self.now.sections ≡ false = search rules in
    subst (λ k. IsEdited {T = Option BString} set_refusal (SetRawValue c.args.section_name.now (option_copied c.args.subsection_name) k keeps c.args.new_value.now) (Ok None) c.args.self.now c.set_in_new.new.self) c.as_bytes-key.ensures.value
    (made_ok c.args.section_name.now (option_copied c.args.subsection_name) key keeps c.args.new_value.now c.args.self.now c.set_in_new.new.self None keyed none c.in_ok-set_in_new.ensures.ok c.in_ok-set_in_new.ensures.put c.in_ok-set_in_new.ensures.told)

pub returns-in_err-old-clause-exact : goal.returns-in_err-old-clause-exact
returns-in_err-old-clause-exact g c = λ keeps h.
    let place = c.last_target.ensures.exact keeps h in
    let key = c.as_bytes-key.result.now in
    let keyed : is_value_name key ≡ true = search rules in
    let l : IsLastAt (is_target c.args.section_name.now (option_copied c.args.subsection_name) keeps) c.args.self.now.sections c.in-Some.at = search rules in
    let fault : c.from_residual-in_err-old.result ≡ Err (of_span c.in_err-old.field-0.0) = search rules in
    subst (λ r. IsEdited {T = Option BString} set_refusal (SetRawValue c.args.section_name.now (option_copied c.args.subsection_name) c.args.value_name.now keeps c.args.new_value.now) r c.args.self.now c.set_at.new.self) (sym fault)
    (subst (λ k. IsEdited {T = Option BString} set_refusal (SetRawValue c.args.section_name.now (option_copied c.args.subsection_name) k keeps c.args.new_value.now) (Err (of_span c.in_err-old.field-0.0)) c.args.self.now c.set_at.new.self) c.as_bytes-key.ensures.value
    (found_err _ c.args.section_name.now (option_copied c.args.subsection_name) key keeps c.args.new_value.now c.args.self.now c.set_at.new.self c.in-Some.at c.in_err-old.field-0.0 keyed l c.in_err-old.ensures.err c.in_err-old.ensures.used))

pub returns-in-Some-2-clause-exact : goal.returns-in-Some-2-clause-exact
returns-in-Some-2-clause-exact g c = λ keeps h.
    let place = c.last_target.ensures.exact keeps h in
    let key = c.as_bytes-key.result.now in
    let keyed : is_value_name key ≡ true = search rules in
    let l : IsLastAt (is_target c.args.section_name.now (option_copied c.args.subsection_name) keeps) c.args.self.now.sections c.in-Some.at = search rules in
    subst (λ k. IsEdited {T = Option BString} set_refusal (SetRawValue c.args.section_name.now (option_copied c.args.subsection_name) k keeps c.args.new_value.now) (Ok (Some c.new.result)) c.args.self.now c.set_at.new.self) c.as_bytes-key.ensures.value
    (found_ok c.args.section_name.now (option_copied c.args.subsection_name) key keeps c.args.new_value.now c.args.self.now c.set_at.new.self c.in-Some.at _ (Some c.new.result) keyed l c.in_ok-old.ensures.ok c.in_ok-old.ensures.used)

pub returns-in-None-clause-exact : goal.returns-in-None-clause-exact
returns-in-None-clause-exact g c = λ keeps h.
    let place = c.last_target.ensures.exact keeps h in
    let key = c.as_bytes-key.result.now in
    let keyed : is_value_name key ≡ true = search rules in
    let l : IsLastAt (is_target c.args.section_name.now (option_copied c.args.subsection_name) keeps) c.args.self.now.sections c.in-Some.at = search rules in
    subst (λ k. IsEdited {T = Option BString} set_refusal (SetRawValue c.args.section_name.now (option_copied c.args.subsection_name) k keeps c.args.new_value.now) (Ok None) c.args.self.now c.set_at.new.self) c.as_bytes-key.ensures.value
    (found_ok c.args.section_name.now (option_copied c.args.subsection_name) key keeps c.args.new_value.now c.args.self.now c.set_at.new.self c.in-Some.at _ None keyed l c.in_ok-old.ensures.ok c.in_ok-old.ensures.used)

pub returns-in_default-clause-answer : goal.returns-in_default-clause-answer
returns-in_default-clause-answer g c = λ keeps h.
    let place = c.last_target.ensures.exact keeps h in
    let key = c.as_bytes-key.result.now in
    let keyed : is_value_name key ≡ true = search rules in
    let none : list_any (is_target c.args.section_name.now (option_copied c.args.subsection_name) keeps) c.args.self.now.sections ≡ false = search rules in
    subst (λ k. Raw (None) ≡ answer (SetRawValue c.args.section_name.now (option_copied c.args.subsection_name) k keeps c.args.new_value.now) c.args.self.now) c.as_bytes-key.ensures.value
    (answer_new c.args.section_name.now (option_copied c.args.subsection_name) key keeps c.args.new_value.now c.args.self.now none)

pub returns-in-Some-2-clause-answer : goal.returns-in-Some-2-clause-answer
returns-in-Some-2-clause-answer g c = λ keeps h.
    let place = c.last_target.ensures.exact keeps h in
    let key = c.as_bytes-key.result.now in
    let keyed : is_value_name key ≡ true = search rules in
    let l : IsLastAt (is_target c.args.section_name.now (option_copied c.args.subsection_name) keeps) c.args.self.now.sections c.in-Some.at = search rules in
    subst (λ k. Raw (option_map bstring_bytes (Some c.new.result)) ≡ answer (SetRawValue c.args.section_name.now (option_copied c.args.subsection_name) k keeps c.args.new_value.now) c.args.self.now) c.as_bytes-key.ensures.value
    (answer_at c.args.section_name.now (option_copied c.args.subsection_name) key keeps c.args.new_value.now c.args.self.now c.in-Some.at _ (Some c.in-Some-2.old.items) l (search rules) (search rules))

pub returns-in-None-clause-answer : goal.returns-in-None-clause-answer
returns-in-None-clause-answer g c = λ keeps h.
    let place = c.last_target.ensures.exact keeps h in
    let key = c.as_bytes-key.result.now in
    let keyed : is_value_name key ≡ true = search rules in
    let l : IsLastAt (is_target c.args.section_name.now (option_copied c.args.subsection_name) keeps) c.args.self.now.sections c.in-Some.at = search rules in
    subst (λ k. Raw (None) ≡ answer (SetRawValue c.args.section_name.now (option_copied c.args.subsection_name) k keeps c.args.new_value.now) c.args.self.now) c.as_bytes-key.ensures.value
    (answer_at c.args.section_name.now (option_copied c.args.subsection_name) key keeps c.args.new_value.now c.args.self.now c.in-Some.at _ None l (search rules) refl)

pub returns-then-not-is_value_name-clause-somewhere : goal.returns-then-not-is_value_name-clause-somewhere
returns-then-not-is_value_name-clause-somewhere g c =
    let key = c.as_bytes-key.result.now in
    let none : is_value_name key ≡ false = search rules in
    subst (λ k. IsSetSomewhere c.args.section_name.now (option_copied c.args.subsection_name) k c.args.new_value.now (Err (ValueName c.invalid.result)) c.args.self.now c.args.self.now) c.as_bytes-key.ensures.value
    (unnamed_somewhere c.args.section_name.now (option_copied c.args.subsection_name) key c.args.new_value.now c.args.self.now (ValueName c.invalid.result) none (ap ValueName c.invalid.ensures))

pub returns-in_err-set_in_new-clause-somewhere : goal.returns-in_err-set_in_new-clause-somewhere
returns-in_err-set_in_new-clause-somewhere g c =
    let key = c.as_bytes-key.result.now in
    let keyed : is_value_name key ≡ true = search rules in
    let fault : c.from_residual.result ≡ Err (of_header c.in_err-set_in_new.field-0.0) = search rules in
    subst (λ r. IsSetSomewhere c.args.section_name.now (option_copied c.args.subsection_name) c.args.value_name.now c.args.new_value.now r c.args.self.now c.set_in_new.new.self) (sym fault)
    (subst (λ k. IsSetSomewhere c.args.section_name.now (option_copied c.args.subsection_name) k c.args.new_value.now (Err (of_header c.in_err-set_in_new.field-0.0)) c.args.self.now c.set_in_new.new.self) c.as_bytes-key.ensures.value
    (unmade_somewhere c.args.section_name.now (option_copied c.args.subsection_name) key c.args.new_value.now c.args.self.now c.set_in_new.new.self c.in_err-set_in_new.field-0.0 keyed c.in_err-set_in_new.ensures.err c.in_err-set_in_new.ensures.told))

pub returns-in_default-clause-somewhere : goal.returns-in_default-clause-somewhere
returns-in_default-clause-somewhere g c =
    let key = c.as_bytes-key.result.now in
    let keyed : is_value_name key ≡ true = search rules in
    subst (λ k. IsSetSomewhere c.args.section_name.now (option_copied c.args.subsection_name) k c.args.new_value.now (Ok None) c.args.self.now c.set_in_new.new.self) c.as_bytes-key.ensures.value
    (made_somewhere c.args.section_name.now (option_copied c.args.subsection_name) key c.args.new_value.now c.args.self.now c.set_in_new.new.self keyed c.in_ok-set_in_new.ensures.ok c.in_ok-set_in_new.ensures.put c.in_ok-set_in_new.ensures.told)

pub returns-in_err-old-clause-somewhere : goal.returns-in_err-old-clause-somewhere
returns-in_err-old-clause-somewhere g c =
    let key = c.as_bytes-key.result.now in
    let keyed : is_value_name key ≡ true = search rules in
    let fault : c.from_residual-in_err-old.result ≡ Err (of_span c.in_err-old.field-0.0) = search rules in
    subst (λ r. IsSetSomewhere c.args.section_name.now (option_copied c.args.subsection_name) c.args.value_name.now c.args.new_value.now r c.args.self.now c.set_at.new.self) (sym fault)
    (subst (λ k. IsSetSomewhere c.args.section_name.now (option_copied c.args.subsection_name) k c.args.new_value.now (Err (of_span c.in_err-old.field-0.0)) c.args.self.now c.set_at.new.self) c.as_bytes-key.ensures.value
    (unset_somewhere _ c.args.section_name.now (option_copied c.args.subsection_name) key c.args.new_value.now c.args.self.now c.set_at.new.self c.in-Some.at c.in_err-old.field-0.0 keyed c.in-Some.ensures.named c.in_err-old.ensures.err c.in_err-old.ensures.used))

pub returns-in-Some-2-clause-somewhere : goal.returns-in-Some-2-clause-somewhere
returns-in-Some-2-clause-somewhere g c =
    let key = c.as_bytes-key.result.now in
    let keyed : is_value_name key ≡ true = search rules in
    subst (λ k. IsSetSomewhere c.args.section_name.now (option_copied c.args.subsection_name) k c.args.new_value.now (Ok (Some c.new.result)) c.args.self.now c.set_at.new.self) c.as_bytes-key.ensures.value
    (found_somewhere c.args.section_name.now (option_copied c.args.subsection_name) key c.args.new_value.now c.args.self.now c.set_at.new.self c.in-Some.at _ (Some c.new.result) (Some c.in-Some-2.old.items) keyed c.in-Some.ensures.named c.in_ok-old.ensures.ok (search rules) (search rules) c.in_ok-old.ensures.used)

pub returns-in-None-clause-somewhere : goal.returns-in-None-clause-somewhere
returns-in-None-clause-somewhere g c =
    let key = c.as_bytes-key.result.now in
    let keyed : is_value_name key ≡ true = search rules in
    subst (λ k. IsSetSomewhere c.args.section_name.now (option_copied c.args.subsection_name) k c.args.new_value.now (Ok None) c.args.self.now c.set_at.new.self) c.as_bytes-key.ensures.value
    (found_somewhere c.args.section_name.now (option_copied c.args.subsection_name) key c.args.new_value.now c.args.self.now c.set_at.new.self c.in-Some.at _ None None keyed c.in-Some.ensures.named c.in_ok-old.ensures.ok (search rules) refl c.in_ok-old.ensures.used)
