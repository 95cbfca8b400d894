use Rattle.std.proofs.Common.{true, ap, subst, ◌∙◌}
use Rattle.std.specs.Option.{option_copied}
use Rattle.gitconf_lookups.specs.Finding.{AreFound, all_places}
use Rattle.gitconf_lookups.specs.SomeSections.{AreSome}
use Rattle.gitconf_lookups.specs.Walks.{named_left}
use Rattle.gitconf_lookups.proofs.SomeSections.{with_some_named}
use Rattle.gitconf_store.proofs.store.Store.find_all.Goals as goal

pub returns : goal.returns
returns g c = record {
  exact = λ keeps h.
      subst (AreFound c.all_found.result)
      (ap (λ k. all_places k keeps (named_left c.sections_named-sections.result)) c.as_bytes.ensures.value ∙ ap (all_places c.args.key.value_name.now keeps) c.sections_named-sections.ensures)
      (c.all_found.ensures.exact keeps h);
  some =
      let found = c.all_found.ensures.some in
      with_some_named c.args.key.section_name.now (option_copied c.args.key.subsection_name) c.args.self.now
      (λ sections. AreFound c.all_found.result (all_places c.args.key.value_name.now (λ _. true) sections)) (
        found.0,
        subst (λ sections. AreSome sections found.0) c.sections_named-sections.ensures found.1,
        subst (λ k. AreFound c.all_found.result (all_places k (λ _. true) found.0)) c.as_bytes.ensures.value found.2,
      );
}
