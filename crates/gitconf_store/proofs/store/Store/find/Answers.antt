use Rattle.std.proofs.Common.{true, ap, subst, ◌∙◌}
use Rattle.std.specs.Option.{option_copied, option_map}
use Rattle.std.specs.Prelude.{◌≡◌}
use Rattle.gitconf_lookups.specs.Finding.{last_place, place_of}
use Rattle.gitconf_lookups.specs.SomeSections.{AreSome}
use Rattle.gitconf_lookups.specs.Walks.{named_left}
use Rattle.gitconf_lookups.proofs.SomeSections.{with_some_named}
use Rattle.gitconf_store.proofs.store.Store.find.Goals as goal

pub returns : goal.returns
returns g c = record {
  exact = λ keeps h.
      c.last_found.ensures.exact keeps h
      ∙ ap (λ k. last_place c.args.deciding k keeps (named_left c.sections_named-sections.result)) c.as_bytes.ensures.value
      ∙ ap (last_place c.args.deciding c.args.key.value_name.now keeps) c.sections_named-sections.ensures;
  some =
      let found = c.last_found.ensures.some in
      with_some_named c.args.key.section_name.now (option_copied c.args.key.subsection_name) c.args.self.now
      (λ sections. option_map place_of c.last_found.result ≡ last_place c.args.deciding c.args.key.value_name.now (λ _. true) sections) (
        found.0,
        subst (λ sections. AreSome sections found.0) c.sections_named-sections.ensures found.1,
        found.2 ∙ ap (λ k. last_place c.args.deciding k (λ _. true) found.0) c.as_bytes.ensures.value,
      );
}
