use Rattle.std.proofs.Common.{rules, ◌≡◌, true, false, [], Some, Err, ap, sym, subst, ◌∙◌}
use Rattle.std.specs.Option.{option_copied}
use Rattle.std.specs.Prelude.{IfErr}
use Rattle.gitconf_text.specs.Names.{is_value_name}
use Rattle.gitconf_state.specs.Edits.{with_sections}
use Rattle.gitconf_lookups.specs.declared.existing.Error.TheVariants.{KeyMissing}
use Rattle.gitconf_sources.specs.Key.{key_of}
use Rattle.gitconf_lookups.specs.Picks.{IsMissing}
use Rattle.gitconf_lookups.specs.SomeSections.{AreSome}
use Rattle.gitconf_lookups.specs.ValuePlaces.{IsPlace, last_value_place, value_place}
use Rattle.gitconf_lookups.specs.Walks.{named_left}
use Rattle.gitconf_lookups.proofs.SomeSections.{none_of, with_some_named}
use Rattle.gitconf_lookups.proofs.ValuePlaces.{absent_placed, invalid_placed, place_stands, refused_anyway, refused_placed}
use Rattle.gitconf_store.proofs.store.Store.value_place_filter.Goals as goal

pub returns-in_err-check_named-clause-filtered : goal.returns-in_err-check_named-clause-filtered
returns-in_err-check_named-clause-filtered g c = record {
  exact = λ keeps h.
      let key = key_of c.args.key in
      let m : IfErr c.from_residual.result (IsMissing key.section key.subsection c.args.self.now) = search rules in
      refused_placed key keeps c.args.self.now c.from_residual.result c.from_residual.ensures.0 m;
  some =
      let key = key_of c.args.key in
      let m : IfErr c.from_residual.result (IsMissing key.section key.subsection c.args.self.now) = search rules in
      refused_anyway key c.args.self.now c.from_residual.result c.from_residual.ensures.0 m;
}

pub returns-then-not-is_value_name-clause-filtered : goal.returns-then-not-is_value_name-clause-filtered
returns-then-not-is_value_name-clause-filtered g c = record {
  exact = λ keeps h.
      let key = key_of c.args.key in
      let invalid : is_value_name c.args.key.value_name.now ≡ false = search rules in
      invalid_placed key c.args.self.now (value_place key keeps c.args.self.now) c.invalid.result c.in_ok-check_named.ensures invalid c.invalid.ensures;
  some =
      let key = key_of c.args.key in
      let state = c.args.self.now in
      let invalid : is_value_name c.args.key.value_name.now ≡ false = search rules in (
        [],
        none_of state.sections,
        invalid_placed key state (value_place key (λ _. true) (with_sections [] state)) c.invalid.result c.in_ok-check_named.ensures invalid c.invalid.ensures,
      );
}

pub returns-in-Some-clause-stands : goal.returns-in-Some-clause-stands
returns-in-Some-clause-stands g c =
    let found = c.in-Some.ensures.some in
    place_stands c.args.key.section_name.now (option_copied c.args.key.subsection_name) c.as_bytes-name.result.now c.args.self.now (named_left c.sections_named-sections.result) found.0 _ _
    c.sections_named-sections.ensures found.1 found.2

pub returns-in-Some-clause-filtered : goal.returns-in-Some-clause-filtered
returns-in-Some-clause-filtered g c = record {
  exact = λ keeps h.
      let valid : is_value_name c.args.key.value_name.now ≡ true = search rules in (
        valid,
        sym (c.in-Some.ensures.exact keeps h ∙ ap (λ k. last_value_place k keeps (named_left c.sections_named-sections.result)) c.as_bytes-name.ensures.value
            ∙ ap (last_value_place c.args.key.value_name.now keeps) c.sections_named-sections.ensures),
      );
  some =
      let key = key_of c.args.key in
      let found = c.in-Some.ensures.some in
      let valid : is_value_name c.args.key.value_name.now ≡ true = search rules in
      with_some_named c.args.key.section_name.now (option_copied c.args.key.subsection_name) c.args.self.now
      (λ sections. (is_value_name c.args.key.value_name.now ≡ true) × (last_value_place c.args.key.value_name.now (λ _. true) sections ≡ Some c.in-Some.place)) (
        found.0,
        subst (λ sections. AreSome sections found.0) c.sections_named-sections.ensures found.1,
        (valid, sym (found.2 ∙ ap (λ k. last_value_place k (λ _. true) found.0) c.as_bytes-name.ensures.value)),
      );
}

pub returns-in-None-clause-filtered : goal.returns-in-None-clause-filtered
returns-in-None-clause-filtered g c = record {
  exact = λ keeps h.
      let key = key_of c.args.key in
      let valid : is_value_name c.args.key.value_name.now ≡ true = search rules in
      absent_placed key c.args.self.now (value_place key keeps c.args.self.now) c.in_ok-check_named.ensures valid
      (sym (c.in-None.ensures.exact keeps h ∙ ap (λ k. last_value_place k keeps (named_left c.sections_named-sections.result)) c.as_bytes-name.ensures.value
      ∙ ap (last_value_place c.args.key.value_name.now keeps) c.sections_named-sections.ensures));
  some =
      let key = key_of c.args.key in
      let found = c.in-None.ensures.some in
      let valid : is_value_name c.args.key.value_name.now ≡ true = search rules in
      with_some_named c.args.key.section_name.now (option_copied c.args.key.subsection_name) c.args.self.now
      (λ sections. IsPlace key c.args.self.now (last_value_place c.args.key.value_name.now (λ _. true) sections) (Err KeyMissing)) (
        found.0,
        subst (λ sections. AreSome sections found.0) c.sections_named-sections.ensures found.1,
        absent_placed key c.args.self.now (last_value_place c.args.key.value_name.now (λ _. true) found.0) c.in_ok-check_named.ensures valid
            (sym (found.2 ∙ ap (λ k. last_value_place k (λ _. true) found.0) c.as_bytes-name.ensures.value)),
      );
}
