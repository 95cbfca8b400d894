use Rattle.std.proofs.Common.{rules, ◌≡◌, ◌∙◌, ℕ, Bool, true, List, [], Option, None, Result, Ok, Err, ap, subst}
use Rattle.std.specs.Prelude.{IfErr, IsErr}
use Rattle.std.specs.List.{last_or}
use Rattle.std.specs.Option.{option_copied, option_map}
use Rattle.gitconf_sources.specs.Metadata.{Meta}
use Rattle.gitconf_state.specs.State.{State, with_sections}
use Rattle.gitconf_views.specs.declared.section.SectionRef.{SectionRef}
use Rattle.gitconf_lookups.specs.declared.existing.Error.{Error}
use Rattle.gitconf_lookups.specs.Picks.{IsMissing, IsPassingSection}
use Rattle.gitconf_lookups.specs.SomeSections.{AreSome}
use Rattle.gitconf_views.specs.Views.{shown}
use Rattle.gitconf_lookups.specs.Walks.{passing}
use Rattle.gitconf_lookups.proofs.SomeSections.{none_of, with_some_named}
use Rattle.gitconf_store.proofs.store.Store.section_filter.Goals as goal

-- what is missing is told with any filter
missing : (name : List ℕ) (subsection : Option (List ℕ)) (whole some : State) (keeps : Meta → Bool) (result : Result (Option SectionRef) Error) → IsErr result
    → IfErr result (IsMissing name subsection whole) → IsPassingSection name subsection whole keeps some result
missing name subsection whole some keeps (Ok found) fault m = absurd (cc)
missing name subsection whole some keeps (Err refusal) fault m = m

pub returns-in_err-check_named-clause-filtered : goal.returns-in_err-check_named-clause-filtered
returns-in_err-check_named-clause-filtered g c =
    let m : IfErr c.from_residual.result (IsMissing c.args.name.now (option_copied c.args.subsection_name) c.args.self.now) = search rules in
    record {
      exact = λ keeps h. missing c.args.name.now (option_copied c.args.subsection_name) c.args.self.now c.args.self.now keeps c.from_residual.result c.from_residual.ensures.0 m;
      some = (
        [],
        none_of c.args.self.now.sections,
        missing c.args.name.now (option_copied c.args.subsection_name) c.args.self.now (with_sections [] c.args.self.now) (λ _. true) c.from_residual.result c.from_residual.ensures.0 m,
      );
    }

pub returns-clause-filtered : goal.returns-clause-filtered
returns-clause-filtered g c = record {
  exact = λ keeps h. (
    c.in_ok-check_named.ensures,
    c.last_passing.ensures.exact keeps h ∙ ap (λ ss. last_or None (passing keeps ss)) c.sections_named-sections.ensures,
  );
  some =
      let found = c.last_passing.ensures.some in
      let told = with_some_named c.args.name.now (option_copied c.args.subsection_name) c.args.self.now
      (λ sections. option_map shown c.last_passing.result ≡ last_or None (passing (λ _. true) sections))
      (found.0, subst (λ sections. AreSome sections found.0) c.sections_named-sections.ensures found.1, found.2) in
      (told.0, told.1, (c.in_ok-check_named.ensures, told.2));
}
