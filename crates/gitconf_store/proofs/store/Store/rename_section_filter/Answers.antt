use Rattle.std.proofs.Common.{rules, ◌≡◌, true, Err, Ok, length, map, ap, ◌∙◌, refl}
use Rattle.std.specs.Option.{option_copied}
use Rattle.gitconf_body.specs.Done.{checked, first_cause, heading_causes}
use Rattle.gitconf_body.specs.Refusals.{header_refusal}
use Rattle.gitconf_state.specs.Edit.{is_target}
use Rattle.gitconf_state.specs.Lookup.{is_named, listing}
use Rattle.gitconf_state.specs.State.{SectionState}
use Rattle.gitconf_store.specs.RenameErrors.{of_lookup, of_span}
use Rattle.gitconf_store.specs.declared.rename_section.Error.TheVariants.{Memory}
use Rattle.gitconf_store.proofs.Headers.RenamingAll.{all_marks, fine_some, header_refused, header_refused_told, is_done, key_missing, key_missing_told, memory_wanting, names_missing, names_missing_told, no_passing, no_places, only_memory, some_marked, some_passes, target_found}
use Rattle.gitconf_store.proofs.store.Store.rename_section_filter.Goals as goal

pub returns-in_err-check_named-clause-exact : goal.returns-in_err-check_named-clause-exact
returns-in_err-check_named-clause-exact g c = λ keeps h.
    let is : c.from_residual.result ≡ Err (of_lookup c.in_err-check_named.field-0.0) = search rules in
    let missed = c.in_err-check_named.ensures in
    rw is (names_missing c.args.name.now (option_copied c.args.subsection_name) c.args.new_name.now (option_copied c.args.new_subsection_name) c.args.self.now keeps c.in_err-check_named.field-0.0 missed.0 missed.1)

pub returns-in_err-check_named-clause-told : goal.returns-in_err-check_named-clause-told
returns-in_err-check_named-clause-told g c =
    let is : c.from_residual.result ≡ Err (of_lookup c.in_err-check_named.field-0.0) = search rules in
    rw is (names_missing_told c.args.name.now (option_copied c.args.subsection_name) c.args.new_name.now (option_copied c.args.new_subsection_name) c.args.self.now c.in_err-check_named.field-0.0 c.in_err-check_named.ensures.1)

pub returns-in-Some-clause-exact : goal.returns-in-Some-clause-exact
returns-in-Some-clause-exact g c = λ keeps h.
    let refused : Err c.in-Err.refusal ≡ checked header_refusal (first_cause (heading_causes c.args.new_name.now (option_copied c.args.new_subsection_name) c.args.self.now.used)) = search rules in
    rw c.from.ensures (header_refused c.args.name.now (option_copied c.args.subsection_name) c.args.new_name.now (option_copied c.args.new_subsection_name) c.args.self.now keeps c.in-Err.refusal refused (target_found (is_target c.args.name.now (option_copied c.args.subsection_name) keeps) c.args.self.now.sections c.in-Some.field-0 (c.in-Some.ensures.exact keeps h)))

pub returns-in-Some-clause-told : goal.returns-in-Some-clause-told
returns-in-Some-clause-told g c =
    let refused : Err c.in-Err.refusal ≡ checked header_refusal (first_cause (heading_causes c.args.new_name.now (option_copied c.args.new_subsection_name) c.args.self.now.used)) = search rules in
    rw c.from.ensures (header_refused_told c.args.name.now (option_copied c.args.subsection_name) c.args.new_name.now (option_copied c.args.new_subsection_name) c.args.self.now c.in-Err.refusal c.in_ok-check_named.ensures refused)

pub returns-in-None-clause-exact : goal.returns-in-None-clause-exact
returns-in-None-clause-exact g c = λ keeps h.
    rw c.missing.ensures (key_missing c.args.name.now (option_copied c.args.subsection_name) c.args.new_name.now (option_copied c.args.new_subsection_name) c.args.self.now keeps c.in_ok-check_named.ensures (c.in-None.ensures.exact keeps h))

pub returns-in-None-clause-told : goal.returns-in-None-clause-told
returns-in-None-clause-told g c = rw c.missing.ensures (key_missing_told c.args.name.now (option_copied c.args.subsection_name) c.args.new_name.now (option_copied c.args.new_subsection_name) c.args.self.now c.in_ok-check_named.ensures)

pub returns-in_err-places-clause-exact : goal.returns-in_err-places-clause-exact
returns-in_err-places-clause-exact g c = λ keeps h.
    let fine : Ok tt ≡ checked header_refusal (first_cause (heading_causes c.args.new_name.now (option_copied c.args.new_subsection_name) c.args.self.now.used)) = search rules in
    let is : c.from_residual-in_err-places.result ≡ Err Memory = search rules in
    rw is (memory_wanting c.args.name.now (option_copied c.args.subsection_name) c.args.new_name.now (option_copied c.args.new_subsection_name) c.args.self.now keeps c.args.self.now refl fine (c.in_err-places.ensures.refused keeps h))

pub returns-in_err-places-clause-told : goal.returns-in_err-places-clause-told
returns-in_err-places-clause-told g c =
    let fine : Ok tt ≡ checked header_refusal (first_cause (heading_causes c.args.new_name.now (option_copied c.args.new_subsection_name) c.args.self.now.used)) = search rules in
    let is : c.from_residual-in_err-places.result ≡ Err Memory = search rules in
    rw is (fine_some c.args.name.now (option_copied c.args.subsection_name) c.args.new_name.now (option_copied c.args.new_subsection_name) c.args.self.now (Err Memory) c.in_ok-check_named.ensures fine refl)

pub returns-then-is_empty-clause-exact : goal.returns-then-is_empty-clause-exact
returns-then-is_empty-clause-exact g c = λ keeps h.
    let none : length c.in_ok-places.places.items ≡ 0 = search rules in
    rw c.missing-then-is_empty.ensures (key_missing c.args.name.now (option_copied c.args.subsection_name) c.args.new_name.now (option_copied c.args.new_subsection_name) c.args.self.now keeps c.in_ok-check_named.ensures
    (no_passing (is_target c.args.name.now (option_copied c.args.subsection_name) keeps) c.args.self.now.sections c.in_ok-places.places.items (c.in_ok-places.ensures.exact keeps h) (no_places c.in_ok-places.places.items none)))

pub returns-then-is_empty-clause-told : goal.returns-then-is_empty-clause-told
returns-then-is_empty-clause-told g c = rw c.missing-then-is_empty.ensures (key_missing_told c.args.name.now (option_copied c.args.subsection_name) c.args.new_name.now (option_copied c.args.new_subsection_name) c.args.self.now c.in_ok-check_named.ensures)

pub put_header-requires-clause-marks : goal.put_header-requires-clause-marks
put_header-requires-clause-marks g c =
    let found = c.in_ok-places.ensures.some in (
      found.0,
      c.deref.ensures.value ∙ found.1,
      all_marks (λ (s : SectionState). is_named c.args.name.now (option_copied c.args.subsection_name) (listing s)) found.0 c.args.self.now.sections found.2,
    )

pub returns-in_err-put_header-clause-exact : goal.returns-in_err-put_header-clause-exact
returns-in_err-put_header-clause-exact g c = λ keeps h.
    let test = is_target c.args.name.now (option_copied c.args.subsection_name) keeps in
    let is : c.from_residual-in_err-put_header.result ≡ Err (of_span c.in_err-put_header.field-0.0) = search rules in
    let fine : Ok tt ≡ checked header_refusal (first_cause (heading_causes c.args.new_name.now (option_copied c.args.new_subsection_name) c.args.self.now.used)) = search rules in
    let memory = only_memory c.args.new_name.now (option_copied c.args.new_subsection_name) c.args.self.now.used c.put_header.new.self.used c.in_err-put_header.field-0.0 fine c.in_err-put_header.ensures.used in
    let some = some_passes test c.args.self.now.sections c.in_ok-places.places.items (c.in_ok-places.ensures.exact keeps h) (λ none. let zero : length c.in_ok-places.places.items ≡ 0 = ap length none in let empty : c.is_empty.result ≡ true = search rules in let no = c.if-is_empty.false in absurd (cc)) in
    rw (is, memory) (memory_wanting c.args.name.now (option_copied c.args.subsection_name) c.args.new_name.now (option_copied c.args.new_subsection_name) c.args.self.now keeps c.put_header.new.self c.in_err-put_header.ensures.err fine some)

pub returns-in_err-put_header-clause-told : goal.returns-in_err-put_header-clause-told
returns-in_err-put_header-clause-told g c =
    let is : c.from_residual-in_err-put_header.result ≡ Err (of_span c.in_err-put_header.field-0.0) = search rules in
    let fine : Ok tt ≡ checked header_refusal (first_cause (heading_causes c.args.new_name.now (option_copied c.args.new_subsection_name) c.args.self.now.used)) = search rules in
    let memory = only_memory c.args.new_name.now (option_copied c.args.new_subsection_name) c.args.self.now.used c.put_header.new.self.used c.in_err-put_header.field-0.0 fine c.in_err-put_header.ensures.used in
    rw (is, memory) (fine_some c.args.name.now (option_copied c.args.subsection_name) c.args.new_name.now (option_copied c.args.new_subsection_name) c.args.self.now (Err Memory) c.in_ok-check_named.ensures fine refl)

pub returns-clause-exact : goal.returns-clause-exact
returns-clause-exact g c = λ keeps h.
    let test = is_target c.args.name.now (option_copied c.args.subsection_name) keeps in
    let fine : Ok tt ≡ checked header_refusal (first_cause (heading_causes c.args.new_name.now (option_copied c.args.new_subsection_name) c.args.self.now.used)) = search rules in
    let told = c.in_ok-places.ensures.exact keeps h in
    let some = some_passes test c.args.self.now.sections c.in_ok-places.places.items told (λ none. let zero : length c.in_ok-places.places.items ≡ 0 = ap length none in let empty : c.is_empty.result ≡ true = search rules in let no = c.if-is_empty.false in absurd (cc)) in
    is_done c.args.name.now (option_copied c.args.subsection_name) c.args.new_name.now (option_copied c.args.new_subsection_name) c.args.self.now keeps c.put_header.new.self fine some
    (c.in_ok-put_header.ensures.ok (map test c.args.self.now.sections) (c.deref.ensures.value ∙ told)) c.in_ok-put_header.ensures.used.put

pub returns-clause-told : goal.returns-clause-told
returns-clause-told g c =
    let fine : Ok tt ≡ checked header_refusal (first_cause (heading_causes c.args.new_name.now (option_copied c.args.new_subsection_name) c.args.self.now.used)) = search rules in
    fine_some c.args.name.now (option_copied c.args.subsection_name) c.args.new_name.now (option_copied c.args.new_subsection_name) c.args.self.now (Ok tt) c.in_ok-check_named.ensures fine tt

pub returns-clause-some : goal.returns-clause-some
returns-clause-some g c =
    let found = c.in_ok-places.ensures.some in (
      found.0,
      found.2,
      some_marked found.0 c.in_ok-places.places.items found.1 (λ none. let zero : length c.in_ok-places.places.items ≡ 0 = ap length none in let empty : c.is_empty.result ≡ true = search rules in let no = c.if-is_empty.false in absurd (cc)),
      c.in_ok-put_header.ensures.ok found.0 (c.deref.ensures.value ∙ found.1),
    )
