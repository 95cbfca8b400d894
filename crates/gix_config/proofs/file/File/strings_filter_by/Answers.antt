use Rattle.std.proofs.Common.{true, subst}
use Rattle.std.specs.Option.{option_copied}
use Rattle.gitconf_lookups.specs.Lookups.{AreStrings, key_at}
use Rattle.gitconf_lookups.specs.SomeSections.{WithSome}
use Rattle.gix_config.proofs.file.File.strings_filter_by.Goals as goal

pub returns : goal.returns
returns g c = record {
  exact = λ keeps h.
      subst (λ s. AreStrings (key_at c.args.section_name.now (option_copied c.args.subsection_name) c.args.value_name.now) keeps s c.strings_filter.result)
      c.self.view_is (c.strings_filter.ensures.exact keeps h);
  some =
      subst (WithSome (λ s. AreStrings (key_at c.args.section_name.now (option_copied c.args.subsection_name) c.args.value_name.now) (λ _. true) s c.strings_filter.result))
      c.self.view_is c.strings_filter.ensures.some;
}
