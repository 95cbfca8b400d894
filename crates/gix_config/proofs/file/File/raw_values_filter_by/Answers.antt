use Rattle.std.proofs.Common.{true, subst}
use Rattle.std.specs.Option.{option_copied}
use Rattle.gitconf_lookups.specs.Lookups.{AreRawValues, key_at, values_at, miss_at, texts_of, if_any}
use Rattle.gitconf_lookups.specs.Misses.{IsExisting}
use Rattle.gitconf_lookups.specs.SomeSections.{WithSome}
use Rattle.gix_config.proofs.file.File.raw_values_filter_by.Goals as goal

pub returns : goal.returns
returns g c = record {
  exact = λ keeps h.
      subst (λ s. AreRawValues (key_at c.args.section_name.now (option_copied c.args.subsection_name) c.args.value_name.now) keeps s c.raw_values_filter.result)
      c.self.view_is (c.raw_values_filter.ensures.exact keeps h);
  some =
      subst (λ st. WithSome (λ s. IsExisting texts_of c.raw_values_filter.result (if_any (values_at (key_at c.args.section_name.now (option_copied c.args.subsection_name) c.args.value_name.now) (λ _. true) s)) (miss_at (key_at c.args.section_name.now (option_copied c.args.subsection_name) c.args.value_name.now) st)) st)
      c.self.view_is c.raw_values_filter.ensures.some;
}
