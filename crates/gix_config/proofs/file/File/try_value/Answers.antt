use Rattle.std.proofs.Common.{subst}
use Rattle.gix_config.specs.Converted.{IsTriedValue}
use Rattle.gix_config.proofs.file.File.try_value.Goals as goal

pub returns : goal.returns
returns g c = subst (λ k. IsTriedValue g.T.TryFrom.try_from_gives k c.args.self.now c.try_value_by.result) c.as_key-key.ensures c.try_value_by.ensures
