use Rattle.std.proofs.Common.{rules, ◌≡◌, true, false, [], length, ap, sym, subst, ◌∙◌}
use Rattle.std.specs.Option.{option_copied}
use Rattle.std.specs.Prelude.{◌≢◌, IfErr}
use Rattle.gitconf_text.specs.Names.{is_value_name}
use Rattle.gitconf_state.specs.Edits.{with_sections}
use Rattle.gitconf_lookups.specs.declared.existing.Error.TheVariants.{Memory}
use Rattle.gitconf_sources.specs.Key.{key_of}
use Rattle.gitconf_lookups.specs.Picks.{IsMissing}
use Rattle.gitconf_lookups.specs.SomeSections.{AreSome}
use Rattle.gitconf_lookups.specs.ValuePlaces.{AreInOrder, all_value_places, key_places}
use Rattle.gitconf_lookups.specs.Walks.{named_left}
use Rattle.gitconf_lookups.proofs.SomeSections.{none_of, with_some_named}
use Rattle.gitconf_lookups.proofs.ValuePlaces.{absent_refused, all_places_stand, invalid_refused, missing_anyway, missing_places, none_long, wanting_places}
use Rattle.gitconf_store.proofs.store.Store.value_places_filter.Goals as goal

pub returns-in_err-check_named-clause-filtered : goal.returns-in_err-check_named-clause-filtered
returns-in_err-check_named-clause-filtered g c = record {
  exact = λ keeps h.
      let key = key_of c.args.key in
      let m : IfErr c.from_residual.result (IsMissing key.section key.subsection c.args.self.now) = search rules in
      missing_places key keeps c.args.self.now c.from_residual.result c.from_residual.ensures.0 m;
  some =
      let key = key_of c.args.key in
      let m : IfErr c.from_residual.result (IsMissing key.section key.subsection c.args.self.now) = search rules in
      missing_anyway key c.args.self.now c.from_residual.result c.from_residual.ensures.0 m;
}

pub returns-then-not-is_value_name-clause-filtered : goal.returns-then-not-is_value_name-clause-filtered
returns-then-not-is_value_name-clause-filtered g c = record {
  exact = λ keeps h.
      let key = key_of c.args.key in
      let invalid : is_value_name c.args.key.value_name.now ≡ false = search rules in
      invalid_refused key c.args.self.now (key_places key keeps c.args.self.now ≡ []) c.invalid.result c.in_ok-check_named.ensures invalid c.invalid.ensures;
  some =
      let key = key_of c.args.key in
      let state = c.args.self.now in
      let invalid : is_value_name c.args.key.value_name.now ≡ false = search rules in (
        [],
        none_of state.sections,
        invalid_refused key state (key_places key (λ _. true) (with_sections [] state) ≡ []) c.invalid.result c.in_ok-check_named.ensures invalid c.invalid.ensures,
      );
}

pub returns-in_err-places-clause-filtered : goal.returns-in_err-places-clause-filtered
returns-in_err-places-clause-filtered g c = record {
  exact = λ keeps h.
      let key = key_of c.args.key in
      let valid : is_value_name c.args.key.value_name.now ≡ true = search rules in
      let memory : IfErr c.from_residual-in_err-places.result (λ e. e ≡ Memory) = search rules in
      wanting_places key c.args.self.now (key_places key keeps c.args.self.now) c.from_residual-in_err-places.result c.from_residual-in_err-places.ensures.0 memory valid
      (subst (λ ps. ps ≢ [])
      (ap (λ k. all_value_places k keeps (named_left c.sections_named-sections.result)) c.as_bytes-name.ensures.value
      ∙ ap (all_value_places c.args.key.value_name.now keeps) c.sections_named-sections.ensures)
      (c.in_err-places.ensures.exact keeps h));
  some =
      let key = key_of c.args.key in
      let found = c.in_err-places.ensures.some in
      let valid : is_value_name c.args.key.value_name.now ≡ true = search rules in
      let memory : IfErr c.from_residual-in_err-places.result (λ e. e ≡ Memory) = search rules in
      let told = with_some_named c.args.key.section_name.now (option_copied c.args.key.subsection_name) c.args.self.now
      (λ sections. all_value_places c.args.key.value_name.now (λ _. true) sections ≢ []) (
        found.0,
        subst (λ sections. AreSome sections found.0) c.sections_named-sections.ensures found.1,
        subst (λ k. all_value_places k (λ _. true) found.0 ≢ []) c.as_bytes-name.ensures.value found.2,
      ) in (
        told.0,
        told.1,
        wanting_places key c.args.self.now (key_places key (λ _. true) (with_sections told.0 c.args.self.now)) c.from_residual-in_err-places.result
            c.from_residual-in_err-places.ensures.0 memory valid told.2,
      );
}

pub returns-then-is_empty-clause-filtered : goal.returns-then-is_empty-clause-filtered
returns-then-is_empty-clause-filtered g c = record {
  exact = λ keeps h.
      let key = key_of c.args.key in
      let valid : is_value_name c.args.key.value_name.now ≡ true = search rules in
      let short : length c.in_ok-places.places.items ≡ 0 = search rules in
      let none = none_long c.in_ok-places.places.items short in
      absent_refused key c.args.self.now (key_places key keeps c.args.self.now ≡ []) c.in_ok-check_named.ensures valid
      (sym (ap (λ k. all_value_places k keeps (named_left c.sections_named-sections.result)) c.as_bytes-name.ensures.value
      ∙ ap (all_value_places c.args.key.value_name.now keeps) c.sections_named-sections.ensures) ∙ sym (c.in_ok-places.ensures.exact keeps h) ∙ none);
  some =
      let key = key_of c.args.key in
      let found = c.in_ok-places.ensures.some in
      let valid : is_value_name c.args.key.value_name.now ≡ true = search rules in
      let short : length c.in_ok-places.places.items ≡ 0 = search rules in
      let none = none_long c.in_ok-places.places.items short in
      let told = with_some_named c.args.key.section_name.now (option_copied c.args.key.subsection_name) c.args.self.now
      (λ sections. all_value_places c.args.key.value_name.now (λ _. true) sections ≡ []) (
        found.0,
        subst (λ sections. AreSome sections found.0) c.sections_named-sections.ensures found.1,
        ap (λ k. all_value_places k (λ _. true) found.0) (sym c.as_bytes-name.ensures.value) ∙ sym found.2 ∙ none,
      ) in (
        told.0,
        told.1,
        absent_refused key c.args.self.now (key_places key (λ _. true) (with_sections told.0 c.args.self.now) ≡ []) c.in_ok-check_named.ensures valid told.2,
      );
}

pub returns-clause-stand : goal.returns-clause-stand
returns-clause-stand g c =
    let found = c.in_ok-places.ensures.some in
    all_places_stand c.args.key.section_name.now (option_copied c.args.key.subsection_name) c.as_bytes-name.result.now c.args.self.now (named_left c.sections_named-sections.result) found.0 _ _
    c.sections_named-sections.ensures found.1 found.2 c.put_in_order.ensures

pub returns-clause-filtered : goal.returns-clause-filtered
returns-clause-filtered g c = record {
  exact = λ keeps h.
      let valid : is_value_name c.args.key.value_name.now ≡ true = search rules in
      let some : c.in_ok-places.places.items ≢ [] = search rules in
      let same = c.in_ok-places.ensures.exact keeps h ∙ ap (λ k. all_value_places k keeps (named_left c.sections_named-sections.result)) c.as_bytes-name.ensures.value
      ∙ ap (all_value_places c.args.key.value_name.now keeps) c.sections_named-sections.ensures in
      (valid, subst (λ ps. ps ≢ []) same some, subst (λ ps. AreInOrder ps c.put_in_order.new.places.items) same c.put_in_order.ensures);
  some =
      let found = c.in_ok-places.ensures.some in
      let valid : is_value_name c.args.key.value_name.now ≡ true = search rules in
      let some : c.in_ok-places.places.items ≢ [] = search rules in
      let same = found.2 ∙ ap (λ k. all_value_places k (λ _. true) found.0) c.as_bytes-name.ensures.value in
      with_some_named c.args.key.section_name.now (option_copied c.args.key.subsection_name) c.args.self.now
      (λ sections. (is_value_name c.args.key.value_name.now ≡ true) × (all_value_places c.args.key.value_name.now (λ _. true) sections ≢ [])
      × AreInOrder (all_value_places c.args.key.value_name.now (λ _. true) sections) c.put_in_order.new.places.items) (
        found.0,
        subst (λ sections. AreSome sections found.0) c.sections_named-sections.ensures found.1,
        (valid, subst (λ ps. ps ≢ []) same some, subst (λ ps. AreInOrder ps c.put_in_order.new.places.items) same c.put_in_order.ensures),
      );
}
