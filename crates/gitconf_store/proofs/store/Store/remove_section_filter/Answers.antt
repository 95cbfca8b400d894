use Rattle.std.proofs.Common.{true, Ok, Some, None, ap, subst, ◌∙◌}
use Rattle.std.specs.List.{last_or}
use Rattle.std.specs.Option.{option_copied}
use Rattle.gitconf_text.specs.declared.memory.NoMemory.{NoMemory}
use Rattle.gitconf_state.specs.Edits.{without_numbered}
use Rattle.gitconf_store.specs.Removals.{IsTakenOut, without_section}
use Rattle.gitconf_lookups.specs.SomeSections.{AreSome}
use Rattle.gitconf_views.specs.Views.{shown}
use Rattle.gitconf_lookups.specs.Walks.{passing}
use Rattle.gitconf_store.proofs.Places.Numbering.{named_out, taken_none, taken_refused, taken_some}
use Rattle.gitconf_lookups.proofs.SomeSections.{with_some_named}
use Rattle.gitconf_store.proofs.store.Store.remove_section_filter.Goals as goal

pub returns-in_ok-section-in-Some-clause-ok : goal.returns-in_ok-section-in-Some-clause-ok
returns-in_ok-section-in-Some-clause-ok g c = λ keeps h.
    let name = c.args.name.now in
    let subsection = option_copied c.args.subsection_name in
    let old = c.args.self.now in
    let found = c.in-Some.ensures.exact keeps h ∙ ap (λ ss. last_or None (passing keeps ss)) c.sections_named.ensures in
    (taken_some {E = NoMemory} _ (shown c.in-Some.section) c.in_ok-section-in-Some.section old c.take_out.new.self found c.in_ok-section-in-Some.ensures (c.take_out.ensures ∙ ap (λ id. without_numbered id old) c.id-id.ensures)).ok
    ∙ named_out name subsection keeps old

pub returns-in_ok-section-in-Some-clause-filtered : goal.returns-in_ok-section-in-Some-clause-filtered
returns-in_ok-section-in-Some-clause-filtered g c = record {
  exact = λ keeps h.
      let old = c.args.self.now in
      let found = c.in-Some.ensures.exact keeps h ∙ ap (λ ss. last_or None (passing keeps ss)) c.sections_named.ensures in
      taken_some {E = NoMemory} _ (shown c.in-Some.section) c.in_ok-section-in-Some.section old c.take_out.new.self found c.in_ok-section-in-Some.ensures (c.take_out.ensures ∙ ap (λ id. without_numbered id old) c.id-id.ensures);
  some =
      let found = c.in-Some.ensures.some in
      let old = c.args.self.now in
      with_some_named c.args.name.now (option_copied c.args.subsection_name) old
      (λ sections. IsTakenOut {E = NoMemory} (last_or None (passing (λ _. true) sections)) (Ok (Some c.in_ok-section-in-Some.section)) old c.take_out.new.self) (
        found.0,
        subst (λ sections. AreSome sections found.0) c.sections_named.ensures found.1,
        taken_some _ (shown c.in-Some.section) c.in_ok-section-in-Some.section old c.take_out.new.self found.2 c.in_ok-section-in-Some.ensures (c.take_out.ensures ∙ ap (λ id. without_numbered id old) c.id-id.ensures),
      );
}

pub returns-in_err-section-in-Some-clause-filtered : goal.returns-in_err-section-in-Some-clause-filtered
returns-in_err-section-in-Some-clause-filtered g c = record {
  exact = λ keeps h.
      let found = c.in-Some.ensures.exact keeps h ∙ ap (λ ss. last_or None (passing keeps ss)) c.sections_named.ensures in
      taken_refused _ (shown c.in-Some.section) c.from_residual.result c.args.self.now found c.from_residual.ensures.0;
  some =
      let found = c.in-Some.ensures.some in
      let old = c.args.self.now in
      with_some_named c.args.name.now (option_copied c.args.subsection_name) old
      (λ sections. IsTakenOut {E = NoMemory} (last_or None (passing (λ _. true) sections)) c.from_residual.result old old) (
        found.0,
        subst (λ sections. AreSome sections found.0) c.sections_named.ensures found.1,
        taken_refused _ (shown c.in-Some.section) c.from_residual.result old found.2 c.from_residual.ensures.0,
      );
}

pub returns-in-None-clause-ok : goal.returns-in-None-clause-ok
returns-in-None-clause-ok g c = λ keeps h.
    let old = c.args.self.now in
    let found = c.in-None.ensures.exact keeps h ∙ ap (λ ss. last_or None (passing keeps ss)) c.sections_named.ensures in
    ap (λ o. without_section o old) found
    ∙ named_out c.args.name.now (option_copied c.args.subsection_name) keeps old

pub returns-in-None-clause-filtered : goal.returns-in-None-clause-filtered
returns-in-None-clause-filtered g c = record {
  exact = λ keeps h.
      let found = c.in-None.ensures.exact keeps h ∙ ap (λ ss. last_or None (passing keeps ss)) c.sections_named.ensures in
      taken_none {E = NoMemory} _ c.args.self.now found;
  some =
      let found = c.in-None.ensures.some in
      let old = c.args.self.now in
      with_some_named c.args.name.now (option_copied c.args.subsection_name) old
      (λ sections. IsTakenOut {E = NoMemory} (last_or None (passing (λ _. true) sections)) (Ok None) old old)
      (found.0, subst (λ sections. AreSome sections found.0) c.sections_named.ensures found.1, taken_none {E = NoMemory} _ old found.2);
}
