use Rattle.std.proofs.Common.{true, map, subst}
use Rattle.std.specs.declared.vec.Vec.{Vec}
use Rattle.gitconf_views.specs.declared.section.SectionRef.{SectionRef}
use Rattle.bstr.specs.declared.bstring.BString.{BString}
use Rattle.std.specs.Option.{option_copied}
use Rattle.gitconf_lookups.specs.Lookups.{AreRawValuesWithSections, key_at, values_in, miss_at, shown_with, if_any}
use Rattle.gitconf_lookups.specs.Misses.{IsExisting}
use Rattle.gitconf_lookups.specs.SomeSections.{WithSome}
use Rattle.gix_config.proofs.file.File.raw_values_with_sections_filter_by.Goals as goal

pub returns : goal.returns
returns g c = record {
  exact = λ keeps h.
      subst (λ s. AreRawValuesWithSections (key_at c.args.section_name.now (option_copied c.args.subsection_name) c.args.value_name.now) keeps s c.raw_values_with_sections_filter.result)
      c.self.view_is (c.raw_values_with_sections_filter.ensures.exact keeps h);
  some =
      subst (λ st. WithSome (λ s. IsExisting (λ (found : Vec (BString × SectionRef) _). map shown_with found.items) c.raw_values_with_sections_filter.result (if_any (values_in (key_at c.args.section_name.now (option_copied c.args.subsection_name) c.args.value_name.now) (λ _. true) s)) (miss_at (key_at c.args.section_name.now (option_copied c.args.subsection_name) c.args.value_name.now) st)) st)
      c.self.view_is c.raw_values_with_sections_filter.ensures.some;
}
