use Rattle.std.proofs.Common.{subst}
use Rattle.gix_config.specs.Converted.{IsValueWithSection}
use Rattle.gix_config.proofs.file.File.value_with_section.Goals as goal

pub returns : goal.returns
returns g c = subst (λ k. IsValueWithSection g.T.TryFrom.try_from_gives k c.args.self.now c.value_with_section_by.result) c.as_key-key.ensures c.value_with_section_by.ensures
