use Rattle.std.proofs.Common.{subst}
use Rattle.gix_config.specs.Converted.{AreTypedValues}
use Rattle.gix_config.proofs.file.File.values.Goals as goal

pub returns : goal.returns
returns g c = subst (λ k. AreTypedValues g.T.TryFrom.try_from_gives k c.args.self.now c.values_by.result) c.as_key-key.ensures c.values_by.ensures
