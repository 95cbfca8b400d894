use Rattle.bstr.specs.Owned.{bstring_bytes}
use Rattle.std.proofs.Common.{true, subst}
use Rattle.std.specs.Option.{option_copied}
use Rattle.gitconf_lookups.specs.Lookups.{IsRawValue, key_at, value_at, miss_at}
use Rattle.gitconf_lookups.specs.Misses.{IsExisting}
use Rattle.gitconf_lookups.specs.SomeSections.{WithSome}
use Rattle.gix_config.proofs.file.File.raw_value_filter_by.Goals as goal

pub returns : goal.returns
returns g c = record {
  exact = λ keeps h.
      subst (λ s. IsRawValue (key_at c.args.section_name.now (option_copied c.args.subsection_name) c.args.value_name.now) keeps s c.raw_value_filter.result)
      c.self.view_is (c.raw_value_filter.ensures.exact keeps h);
  some =
      subst (λ st. WithSome (λ s. IsExisting bstring_bytes c.raw_value_filter.result (value_at (key_at c.args.section_name.now (option_copied c.args.subsection_name) c.args.value_name.now) (λ _. true) s) (miss_at (key_at c.args.section_name.now (option_copied c.args.subsection_name) c.args.value_name.now) st)) st)
      c.self.view_is c.raw_value_filter.ensures.some;
}
