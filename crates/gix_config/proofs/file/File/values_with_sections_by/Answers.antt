use Rattle.std.proofs.Common.{true}
use Rattle.std.specs.Option.{option_copied}
use Rattle.gitconf_lookups.specs.Lookups.{key_at, miss_at, values_in}
use Rattle.gix_config.proofs.file.File.values_with_sections_by.Goals as goal

pub returns : goal.returns
returns g c =
    let key = key_at c.args.section_name.now (option_copied c.args.subsection_name) c.args.value_name.now in
    c.converted_with_sections.ensures (values_in key (λ _. true) c.args.self.now) (miss_at key c.args.self.now) c.raw_values_with_sections_by.ensures
