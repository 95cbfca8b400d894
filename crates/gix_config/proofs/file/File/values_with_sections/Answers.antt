use Rattle.std.proofs.Common.{subst}
use Rattle.gix_config.specs.Converted.{AreValuesWithSections}
use Rattle.gix_config.proofs.file.File.values_with_sections.Goals as goal

pub returns : goal.returns
returns g c = subst (λ k. AreValuesWithSections g.T.TryFrom.try_from_gives k c.args.self.now c.values_with_sections_by.result) c.as_key-key.ensures c.values_with_sections_by.ensures
