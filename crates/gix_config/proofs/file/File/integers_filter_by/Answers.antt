use Rattle.std.proofs.Common.{true, subst}
use Rattle.std.specs.Option.{option_copied}
use Rattle.gitconf_lookups.specs.Lookups.{key_at}
use Rattle.gitconf_lookups.specs.SomeSections.{WithSome}
use Rattle.gix_config.specs.Typed.{AreIntegers}
use Rattle.gix_config.proofs.file.File.integers_filter_by.Goals as goal

pub returns : goal.returns
returns g c = record {
  exact = λ keeps h.
      let key = key_at c.args.section_name.now (option_copied c.args.subsection_name) c.args.value_name.now in
      subst (λ s. AreIntegers key keeps s c.found_integers.result) c.self.view_is
      (c.found_integers.ensures _ (c.strings_filter-found.ensures.exact keeps h));
  some =
      let key = key_at c.args.section_name.now (option_copied c.args.subsection_name) c.args.value_name.now in
      let found = c.strings_filter-found.ensures.some in
      subst (WithSome (λ s. AreIntegers key (λ _. true) s c.found_integers.result)) c.self.view_is
      (found.0, found.1, c.found_integers.ensures _ found.2);
}
