use Rattle.std.proofs.Common.{true, subst}
use Rattle.std.specs.Option.{option_copied}
use Rattle.gitconf_lookups.specs.Lookups.{key_at}
use Rattle.gitconf_lookups.specs.SomeSections.{WithSome}
use Rattle.gix_config.specs.Typed.{IsInteger}
use Rattle.gix_config.proofs.file.File.integer_filter_by.Goals as goal

pub returns : goal.returns
returns g c = record {
  exact = λ keeps h.
      let key = key_at c.args.section_name.now (option_copied c.args.subsection_name) c.args.value_name.now in
      subst (λ s. IsInteger key keeps s c.found_integer.result) c.self.view_is
      (c.found_integer.ensures _ (c.string_filter-found.ensures.exact keeps h));
  some =
      let key = key_at c.args.section_name.now (option_copied c.args.subsection_name) c.args.value_name.now in
      let found = c.string_filter-found.ensures.some in
      subst (WithSome (λ s. IsInteger key (λ _. true) s c.found_integer.result)) c.self.view_is
      (found.0, found.1, c.found_integer.ensures _ found.2);
}
